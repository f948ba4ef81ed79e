-- The devices of a guest, of any kind: what each has still to do, and the device in the flat machine.
use Rattle.std.specs.Prelude.{ℕ, ◌≡◌, Bool, false, Option, Some, None, List, [], ◌∷◌, ◌++◌}
use Rattle.std.proofs.Common.{ap}
use Rattle.vm_types.specs.declared.op.Op.{Op}
use Rattle.vm_types.specs.declared.op.OutOp.{OutOp}
use Rattle.vm_types.specs.declared.reply.Reply.{Reply}
use Rattle.vm_types.specs.declared.entry.Step.{Step}
use Rattle.vm_types.specs.Fits.{fits}
use Rattle.device_trace.specs.Script.{Script, Ends}
use Rattle.device_trace.specs.Traces.{Item, Did, Changed, Continues, Rules}
use Rattle.device_trace.specs.States.{wants, next, leaves, changed_at, Leads}
use Rattle.queue_device.specs.Lanes.{new_rounds}
use Rattle.queue_device.specs.Left.{queued}
use Rattle.queue_device.specs.Rounds.{queue_rules}
use Rattle.queue_device.specs.Service.{Queued}
use Rattle.queue_device.specs.Timing.{is_timed_left}
use Rattle.guest_devices.specs.declared.change.DeviceChange.{DeviceChange}
use Rattle.guest_devices.specs.declared.new_device.NewDevice.{NewDevice}
use Rattle.guest_devices.specs.Kinds.{Kind, ChangeOf, IsFineOf, OwnOf, calls_of, change_for, changing_of, kind_at_start, own_at_start}
use Rattle.guest_devices.specs.Kinds.{reset_for, service_of}

-- the data of a device of this kind, and what it does
abbrev pub DataOf : Kind → Type 0
DataOf k = Queued (OwnOf k)

abbrev pub device_rules : (k : Kind) → Rules (DataOf k) (ChangeOf k)
device_rules k = queue_rules (service_of k) (changing_of k)

-- ---- what a device has still to do

pub record DeviceLeft : Type 0 where
  pub kind : Kind
  pub left : Script (DataOf kind)

abbrev pub left_of : (k : Kind) → Script (DataOf k) → DeviceLeft
left_of k t = record { kind = k; left = t }

abbrev pub device_wants : DeviceLeft → Op
device_wants d = wants (device_rules d.kind) d.left

-- a reply that doesn't fit leaves it
abbrev pub device_next : DeviceLeft → Reply → DeviceLeft
device_next d reply = left_of d.kind (next (device_rules d.kind) d.left reply)

pub device_leaves : (d : DeviceLeft) (reply : Reply) → fits (device_wants d) reply ≡ false → device_next d reply ≡ d
device_leaves d reply unfit = ap (left_of d.kind) (leaves (device_rules d.kind) d.left reply unfit)

-- a change of its own kind
abbrev pub left_told : (d : DeviceLeft) → Option (ChangeOf d.kind) → DeviceLeft
left_told d None = d
left_told d (Some c) = left_of d.kind (changed_at (device_rules d.kind) c d.left)

abbrev pub device_changed : DeviceChange → DeviceLeft → DeviceLeft
device_changed change d = left_told d (change_for change d.kind)

-- the Reset that comes before a create
abbrev pub left_reset : DeviceLeft → DeviceLeft
left_reset d = left_told d (reset_for d.kind)

-- ---- the device in the flat machine

-- what it had still to do where its items begin, and its items since
pub record FlatDevice : Type 0 where
  pub kind : Kind
  pub start : Script (DataOf kind)
  pub items : List (Item (ChangeOf kind))

-- one more
abbrev pub with_item : (d : FlatDevice) → Item (ChangeOf d.kind) → FlatDevice
with_item d item = record { kind = d.kind; start = d.start; items = d.items ++ item ∷ [] }

-- its items lead to this
abbrev pub DeviceLeads : FlatDevice → DeviceLeft → Type 0
DeviceLeads d left = (t : Script (DataOf d.kind)) × Leads (device_rules d.kind) d.start d.items t × (left ≡ left_of d.kind t)

-- it wants the act that continues its items to a trace
abbrev pub DeviceWants : FlatDevice → Op → Type 0
DeviceWants d op = Continues (device_rules d.kind) d.start d.items op

-- one act more
abbrev pub device_did : FlatDevice → Step → FlatDevice
device_did d s = with_item d (Did s)

-- one change more, of its own kind
abbrev pub told_of : (d : FlatDevice) → Option (ChangeOf d.kind) → FlatDevice
told_of d None = d
told_of d (Some c) = with_item d (Changed c)

abbrev pub device_told : FlatDevice → DeviceChange → FlatDevice
device_told d change = told_of d (change_for change d.kind)

abbrev pub device_reset : FlatDevice → FlatDevice
device_reset d = told_of d (reset_for d.kind)

-- a device whose items begin where this is still to be done
abbrev pub device_at : DeviceLeft → FlatDevice
device_at d = record { kind = d.kind; start = d.left; items = [] }

-- ---- the device of this port that has done nothing, in a guest of so many pages

abbrev pub new_left : ℕ → ℕ → NewDevice → DeviceLeft
new_left port pages what = left_of (kind_at_start what) (Ends (queued (new_rounds port pages) (own_at_start what)))

abbrev pub new_device : ℕ → ℕ → NewDevice → FlatDevice
new_device port pages what = device_at (new_left port pages what)

-- it may start with such data
abbrev pub FitsNew : NewDevice → Type 0
FitsNew what = IsFineOf (kind_at_start what) (own_at_start what)

-- ---- what it may ask

-- the calls of a device's host object
abbrev pub device_calls : FlatDevice → OutOp → Bool
device_calls d = calls_of d.kind

-- it wants guest time: a chain waits that is due, and its kind times it by the data of that moment
abbrev pub left_times : DeviceLeft → Bool
left_times d = is_timed_left (service_of d.kind) d.left
