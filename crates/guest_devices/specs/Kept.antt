-- What devices have still to do, by what the code keeps of them.
use Rattle.std.specs.Prelude.{ℕ, ◌≡◌, ◌≤◌, ◌^◌, ◌&&◌, nat_le, nat_lt, Bool, true, false, Option, Some, None, List, [], ◌∷◌, length, map, slice_set}
use Rattle.vm_types.specs.declared.op.Op.{Op}
use Rattle.vm_types.specs.declared.reply.Reply.{Reply}
use Rattle.queue_device.specs.declared.lanes.Rounds.{Rounds}
use Rattle.queue_device.specs.declared.phase.Phase.{Phase}
use Rattle.queue_device.specs.Chains.{Chain}
use Rattle.queue_device.specs.Kept.{is_state}
use Rattle.queue_device.specs.Left.{left_at, queued}
use Rattle.queue_device.specs.Resuming.{AreShort}
use Rattle.vsock_device.specs.Reset.{is_unconnected}
use Rattle.guest_devices.specs.declared.device.Device.{Device}
use Rattle.guest_devices.specs.declared.device.Device.TheVariants as device
use Rattle.guest_devices.specs.Devices.{DeviceLeft, device_wants, device_next, left_of, left_reset}
use Rattle.guest_devices.specs.Kinds.{Balloon, Block, Entropy, IsFineOf, Kind, Net, OwnOf, StageOf, Vsock, hand_of, is_fine_of, is_work_of, service_of, times_of}

-- what is kept of a device: what it is at, its rounds, its data and its kind's work
pub record KeptDevice : Type 0 where
  pub kind : Kind
  pub phase : Phase
  pub rounds : Rounds
  pub own : OwnOf kind
  pub stage : StageOf kind

-- ---- a line a kind

abbrev pub kept_of : Device → KeptDevice
kept_of (device.Block b) =
    record { kind = Block; phase = b.phase; rounds = b.rounds; own = b.kind.facts; stage = b.kind.work }
kept_of (device.Net n) =
    record { kind = Net; phase = n.phase; rounds = n.rounds; own = n.kind.own; stage = n.kind.doing }
kept_of (device.Vsock v) =
    record { kind = Vsock; phase = v.phase; rounds = v.rounds; own = v.kind.own; stage = v.kind.stage }
kept_of (device.Balloon b) =
    record { kind = Balloon; phase = b.phase; rounds = b.rounds; own = b.kind.own; stage = b.kind.stage }
kept_of (device.Entropy e) =
    record { kind = Entropy; phase = e.phase; rounds = e.rounds; own = e.kind.own; stage = e.kind.stage }

-- a file may have this of it: of a vsock device no connection
abbrev pub is_saved : Device → Bool
is_saved (device.Block b) = true
is_saved (device.Net n) = true
is_saved (device.Vsock v) = is_unconnected v.kind.own
is_saved (device.Balloon b) = true
is_saved (device.Entropy e) = true

-- ---- of any kind

abbrev pub left_by : KeptDevice → DeviceLeft
left_by d = left_of d.kind (left_at (service_of d.kind) d.phase (hand_of d.kind d.stage) (queued d.rounds d.own))

abbrev pub device_left : Device → DeviceLeft
device_left d = left_by (kept_of d)

-- by their numbers
abbrev pub devices_left : List Device → List DeviceLeft
devices_left devices = map device_left devices

-- a device may be in this state
abbrev pub is_state_kept : KeptDevice → Bool
is_state_kept d = is_state (service_of d.kind) (times_of d.kind) (is_work_of d.kind) d.phase d.rounds d.stage

abbrev pub is_device_state : Device → Bool
is_device_state d = is_state_kept (kept_of d)

-- and goes on with the like: in a guest of at most 2^20 pages, with data that its kind may have, and no long chain that waits
pub record IsBounded (d : KeptDevice) : Type 0 where
  pub pages : d.rounds.pages ≤ 2 ^ 20
  pub fine : IsFineOf d.kind d.own
  pub short : AreShort false d.rounds

abbrev pub IsBoundedDevice : Device → Type 0
IsBoundedDevice d = IsBounded (kept_of d)

-- a chain that waits has at most 256 parts each way, and 128 bytes
abbrev pub is_short : Option Chain → Bool
is_short None = true
is_short (Some c) = nat_le (length c.parts) 256 && nat_le (length c.got.parts) 256 && nat_le (length c.got.bytes) 128

abbrev pub are_short : Rounds → Bool
are_short r = is_short r.first.waiting && is_short r.second.waiting && is_short r.third.waiting

-- it has data that its kind may have, in a guest of less than 2^32 pages, and no long chain that waits
abbrev pub is_sized : KeptDevice → Bool
is_sized d = is_fine_of d.kind d.own && nat_lt d.rounds.pages (2 ^ 32) && are_short d.rounds

-- such data may be kept of a device: it may be in this state, and each size is one that its field holds
abbrev pub is_kept : Device → Bool
is_kept d = is_state_kept (kept_of d) && is_sized (kept_of d)

-- this is kept of a device behind the Reset that comes before a create
abbrev pub IsReset : Device → Device → Type 0
IsReset it now = (is_kept now ≡ true) × (device_left now ≡ left_reset (device_left it))

-- and this of several, by their numbers
abbrev pub AreReset : List Device → List Device → Type 0
AreReset [] [] = Unit {0}
AreReset [] (now ∷ others) = ⊥
AreReset (it ∷ devices) [] = ⊥
AreReset (it ∷ devices) (now ∷ others) = IsReset it now × AreReset devices others

-- the number of its port, and how many pages its guest has
abbrev pub device_port : Device → ℕ
device_port d = (kept_of d).rounds.port

abbrev pub device_pages : Device → ℕ
device_pages d = (kept_of d).rounds.pages

-- what a device wants, if it is there
abbrev pub device_want : Option DeviceLeft → Option Op
device_want None = None
device_want (Some left) = Some (device_wants left)

-- and what its reply makes of it; the others stay
abbrev pub devices_given : Option DeviceLeft → List DeviceLeft → ℕ → Reply → List DeviceLeft
devices_given None devices k reply = devices
devices_given (Some left) devices k reply = slice_set devices k (device_next left reply)
