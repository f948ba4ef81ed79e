-- The kinds of devices that a guest may have: each table has a line a kind.
use Rattle.std.specs.Prelude.{ℕ, ◌<◌, ◌^◌, nat_lt, Bool, true, Option, Some, None, [], false}
use Rattle.vm_types.specs.declared.op.OutOp.{OutOp}
use Rattle.device_trace.specs.Acts.{is_disk_call}
use Rattle.device_trace.specs.Traces.{Changing, setting}
use Rattle.token_bucket.specs.Kept.{Kept}
use Rattle.rate_gate.specs.Small.{AreSmallOthers}
use Rattle.queue_device.specs.declared.phase.Work.{Work}
use Rattle.queue_device.specs.Left.{Hand}
use Rattle.queue_device.specs.Service.{Service}
use Rattle.block_device.specs.declared.data.BlockData.{BlockData}
use Rattle.block_device.specs.declared.kind.BlockChange.{BlockChange}
use Rattle.block_device.specs.declared.kind.BlockChange.TheVariants.{Limits, Sectors}
use Rattle.block_device.specs.Block.{block, changed}
use Rattle.block_device.specs.Kept as block_kept
use Rattle.block_device.specs.States as block_states
use Rattle.block_device.specs.Working as block_working
use Rattle.net_device.specs.declared.kind.NetChange.{NetChange}
use Rattle.net_device.specs.declared.kind.NetChange.TheVariants.{Receives, Transmits}
use Rattle.net_device.specs.Net as nets
use Rattle.net_device.specs.Work as net_work
use Rattle.vsock_device.specs.declared.data.VsockChange.{VsockChange}
use Rattle.vsock_device.specs.declared.data.VsockChange.TheVariants.{Reset}
use Rattle.vsock_device.specs.declared.data.Vsock.{Vsock as VsockData}
use Rattle.vsock_device.specs.declared.kind.Stage.{Stage as VsockStage}
use Rattle.vsock_device.specs.Data.{new_data}
use Rattle.vsock_device.specs.Reset.{resetting}
use Rattle.vsock_device.specs.Small as vsock_small
use Rattle.vsock_device.specs.Vsock as vsocks
use Rattle.vsock_device.specs.Work as vsock_work
use Rattle.balloon_device.specs.declared.kind.BalloonChange.{BalloonChange}
use Rattle.balloon_device.specs.declared.kind.BalloonChange.TheVariants.{Interval}
use Rattle.balloon_device.specs.declared.kind.Stage.{Stage}
use Rattle.balloon_device.specs.Balloon as balloons
use Rattle.balloon_device.specs.Statistics.{no_statistics}
use Rattle.balloon_device.specs.Work as balloon_work
use Rattle.entropy_device.specs.declared.kind.EntropyChange.{EntropyChange}
use Rattle.entropy_device.specs.declared.kind.Stage.{Stage as EntropyStage}
use Rattle.entropy_device.specs.Entropy as entropies
use Rattle.entropy_device.specs.Work as entropy_work
use Rattle.guest_devices.specs.declared.change.DeviceChange.{DeviceChange}
use Rattle.guest_devices.specs.declared.change.DeviceChange.TheVariants as changes
use Rattle.guest_devices.specs.declared.new_device.NewDevice.{NewDevice}
use Rattle.guest_devices.specs.declared.new_device.NewDevice.TheVariants as starts

pub data Kind : Type 0 where
  Block : Kind
  Net : Kind
  Vsock : Kind
  Balloon : Kind
  Entropy : Kind

-- ---- what a device of this kind is

-- its data, beside its rounds
abbrev pub OwnOf : Kind → Type 0
OwnOf Block = BlockData
OwnOf Net = nets.Net
OwnOf Vsock = VsockData
OwnOf Balloon = balloons.Balloon
OwnOf Entropy = entropies.Entropy

-- what is changed of it from outside
abbrev pub ChangeOf : Kind → Type 0
ChangeOf Block = BlockChange
ChangeOf Net = NetChange
ChangeOf Vsock = VsockChange
ChangeOf Balloon = BalloonChange
ChangeOf Entropy = EntropyChange

-- what it does with its queues
abbrev pub service_of : (k : Kind) → Service (OwnOf k)
service_of Block = block
service_of Net = nets.net
service_of Vsock = vsocks.vsock
service_of Balloon = balloons.balloon
service_of Entropy = entropies.entropy

-- what a change makes of it
abbrev pub changing_of : (k : Kind) → Changing (OwnOf k) (ChangeOf k)
changing_of Block = setting changed
changing_of Net = setting nets.limited
changing_of Vsock = resetting
changing_of Balloon = setting balloons.changed
changing_of Entropy = setting entropies.unchanged

-- the calls of its host object
abbrev pub calls_of : Kind → OutOp → Bool
calls_of Block = is_disk_call
calls_of Net = nets.is_link_call
calls_of Vsock = vsocks.is_host_call
calls_of Balloon = balloons.no_call
calls_of Entropy = entropies.is_word_call

-- a chain of it may wait for guest time
abbrev pub times_of : Kind → Bool
times_of Block = true
times_of Net = true
times_of Vsock = false
times_of Balloon = true
times_of Entropy = true

-- ---- what it starts with

abbrev pub kind_at_start : NewDevice → Kind
kind_at_start (starts.Block d) = Block
kind_at_start (starts.Net n) = Net
kind_at_start (starts.Vsock v) = Vsock
kind_at_start (starts.Balloon b) = Balloon
kind_at_start (starts.Entropy e) = Entropy

abbrev pub own_at_start : (what : NewDevice) → OwnOf (kind_at_start what)
own_at_start (starts.Block d) =
    record { sectors = d.sectors; drive_id = d.drive_id; is_read_only = d.is_read_only; limits = d.limits }
own_at_start (starts.Net n) = record { text = []; rx = n.rx; tx = n.tx }
own_at_start (starts.Vsock v) = new_data v.guest_cid
own_at_start (starts.Balloon w) = record { interval = w.interval; last = 0; statistics = no_statistics }
own_at_start (starts.Entropy e) = record { limits = e.limits }

-- ---- what it is told of

-- the change that this is to a device of its kind; to one of another kind it is none. The API changes nothing of a vsock device,
-- and nothing of an entropy device.
abbrev pub change_for : DeviceChange → (k : Kind) → Option (ChangeOf k)
change_for (changes.Block c) Block = Some c
change_for (changes.Net c) Net = Some c
change_for (changes.Balloon c) Balloon = Some c
change_for c k = None

-- the disk of a block device has another size, in sectors of 512 bytes
abbrev pub sectors_change : ℕ → DeviceChange
sectors_change sectors = changes.Block (Sectors sectors)

-- and its gate other buckets in place of those that are named
abbrev pub limits_change : Option (Option Kept) → Option (Option Kept) → DeviceChange
limits_change bandwidth ops = changes.Block (Limits bandwidth ops)

-- and a network device, of what it receives, and of what it transmits
abbrev pub receives_change : Option (Option Kept) → Option (Option Kept) → DeviceChange
receives_change bandwidth ops = changes.Net (Receives bandwidth ops)

abbrev pub transmits_change : Option (Option Kept) → Option (Option Kept) → DeviceChange
transmits_change bandwidth ops = changes.Net (Transmits bandwidth ops)

-- its numbers fit their fields, where data that a kind may have depend on that: a disk has less than 2^64 sectors
abbrev pub FitsChange : DeviceChange → Type 0
FitsChange (changes.Block (Sectors sectors)) = sectors < 2 ^ 64
FitsChange (changes.Block (Limits bandwidth ops)) = Unit {0}
FitsChange (changes.Net c) = Unit {0}
FitsChange (changes.Balloon c) = Unit {0}

-- the Reset that comes before a create, to the kinds that are told of it
abbrev pub reset_for : (k : Kind) → Option (ChangeOf k)
reset_for Block = None
reset_for Net = None
reset_for Vsock = Some Reset
reset_for Balloon = None
reset_for Entropy = None

-- ---- what its code keeps

-- where it is in the work that was begun
abbrev pub StageOf : Kind → Type 0
StageOf Block = block_working.Working
StageOf Net = net_work.AtWork
StageOf Vsock = VsockStage
StageOf Balloon = Stage
StageOf Entropy = EntropyStage

abbrev pub hand_of : (k : Kind) → StageOf k → Hand (OwnOf k)
hand_of Block = block_working.hand_of
hand_of Net = net_work.hand_of
hand_of Vsock = vsock_work.hand_of
hand_of Balloon = balloon_work.hand_of
hand_of Entropy = entropy_work.hand_of

-- it may be there
abbrev pub is_work_of : (k : Kind) → Work → ℕ → StageOf k → Bool
is_work_of Block = block_kept.is_work
is_work_of Net = net_work.is_work
is_work_of Vsock = vsock_work.is_work
is_work_of Balloon = balloon_work.is_work
is_work_of Entropy = entropy_work.is_work

-- it may have such data, as a fact and as a test
abbrev pub IsFineOf : (k : Kind) → OwnOf k → Type 0
IsFineOf Block e = e.sectors < 2 ^ 64
IsFineOf Net e = net_work.AnyNet e
IsFineOf Vsock e = vsock_work.AnyVsock e
IsFineOf Balloon e = balloon_work.AnyBalloon e
IsFineOf Entropy e = entropy_work.AnyEntropy e

abbrev pub is_fine_of : (k : Kind) → OwnOf k → Bool
is_fine_of Block e = nat_lt e.sectors (2 ^ 64)
is_fine_of Net e = true
is_fine_of Vsock e = true
is_fine_of Balloon e = true
is_fine_of Entropy e = true

-- ---- what it keeps where each reply was small

-- its work, and what it may then be
abbrev pub IsSmallOf : (k : Kind) → StageOf k → Type 0
IsSmallOf Block g = block_working.IsSmallWork g
IsSmallOf Net g = net_work.IsSmallWork g
IsSmallOf Vsock g = vsock_small.IsSmallStage g
IsSmallOf Balloon g = balloon_work.IsSmallStage g
IsSmallOf Entropy g = entropy_work.IsSmallStage g

-- both
abbrev pub SizedOf : Kind → Type 0
SizedOf Block = block_working.SizedWork true
SizedOf Net = net_work.SizedWork true
SizedOf Vsock = vsock_small.SizedStage true
SizedOf Balloon = balloon_work.SizedStage true
SizedOf Entropy = entropy_work.SizedStage true

abbrev pub sized_in : (k : Kind) (g : StageOf k) → IsSmallOf k g → SizedOf k
sized_in Block g small = record { work = g; small = λ yes. small }
sized_in Net g small = record { work = g; small = λ yes. small }
sized_in Vsock g small = record { stage = g; small = λ yes. small }
sized_in Balloon g small = record { stage = g; small = λ yes. small }
sized_in Entropy g small = record { stage = g; small = λ yes. small }

abbrev pub stage_in : (k : Kind) → SizedOf k → StageOf k
stage_in Block g = g.work
stage_in Net g = g.work
stage_in Vsock g = g.stage
stage_in Balloon g = g.stage
stage_in Entropy g = g.stage

abbrev pub sized_hand_of : (k : Kind) → SizedOf k → Hand (OwnOf k)
sized_hand_of Block = block_working.sized_hand true
sized_hand_of Net = net_work.sized_hand true
sized_hand_of Vsock = vsock_small.sized_hand true
sized_hand_of Balloon = balloon_work.sized_hand true
sized_hand_of Entropy = entropy_work.sized_hand true

abbrev pub is_sized_work_of : (k : Kind) → Work → ℕ → SizedOf k → Bool
is_sized_work_of Block = block_states.is_sized_work
is_sized_work_of Net = net_work.is_sized_work true
is_sized_work_of Vsock = vsock_small.is_sized_work true
is_sized_work_of Balloon = balloon_work.is_sized_work true
is_sized_work_of Entropy = entropy_work.is_sized_work true

-- its data
abbrev pub IsSizedOf : (k : Kind) → OwnOf k → Type 0
IsSizedOf Block = block_working.IsSizedData true
IsSizedOf Net = net_work.IsSizedData true
IsSizedOf Vsock = vsock_small.IsSizedData true
IsSizedOf Balloon = balloon_work.IsSizedData true
IsSizedOf Entropy = entropy_work.IsSizedData true

-- and the numbers of a change that they don't fit by themselves
abbrev pub IsSmallChange : DeviceChange → Type 0
IsSmallChange (changes.Block (Sectors sectors)) = Unit {0}
IsSmallChange (changes.Block (Limits bandwidth ops)) =
    AreSmallOthers bandwidth × AreSmallOthers ops
IsSmallChange (changes.Net (Receives bandwidth ops)) = AreSmallOthers bandwidth × AreSmallOthers ops
IsSmallChange (changes.Net (Transmits bandwidth ops)) = AreSmallOthers bandwidth × AreSmallOthers ops
IsSmallChange (changes.Balloon (Interval seconds)) = seconds < 2 ^ 16
