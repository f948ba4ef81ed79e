-- What is read of a device has its widths: each field tells that of its number. The bytes that it holds are bytes of the file.
use Rattle.std.proofs.Common.{◌≡◌, ◌≤◌, ℕ, Bool, true, false, refl, sym, subst, List, length, Option, Some, None, arith}
use Rattle.std.specs.Prelude.{IfSome}
use Rattle.std.specs.List.{All}
use Rattle.std.proofs.lemmas.Bool.{leb-true}
use Rattle.le_fields.specs.Fields.{IsByte}
use Rattle.file_format.specs.Ends.{ended}
use Rattle.file_format.specs.Kinds.{byte, optional}
use Rattle.file_format.proofs.Fitting.{every, of16, of32, of64, of8, of_optional, of_times}
use Rattle.vm_types.specs.declared.port_look.Accepted.{Accepted}
use Rattle.vq_split.specs.declared.queue.Part.{Part}
use Rattle.vq_split.specs.declared.queue.Queue.{Queue}
use Rattle.vq_split.specs.declared.walk.Stage.{Stage}
use Rattle.vq_split.specs.declared.walk.Stage.TheVariants.{AvailEvent, Entry, EntryRest, Index, IndexAgain, Link, Ring}
use Rattle.vq_split.specs.Walking.{Walking, walk_of}
use Rattle.dev_core.specs.declared.collect.Collect.{Collect}
use Rattle.dev_core.specs.Looks.{no_queue}
use Rattle.token_bucket.specs.Kept.{Kept}
use Rattle.rate_gate.specs.Gate.{Buckets}
use Rattle.queue_device.specs.declared.device.QueueRounds.{QueueRounds}
use Rattle.queue_device.specs.declared.phase.Phase.{Phase}
use Rattle.queue_device.specs.declared.phase.Phase.TheVariants as at
use Rattle.queue_device.specs.Chains.{Chain}
use Rattle.queue_device.specs.Lanes.{new_lane}
use Rattle.queue_device.specs.Resuming.{AreShort, IsShortChain}
use Rattle.queue_device.specs.Sizes.{IsNarrowLane, IsNarrowPhase, IsNarrowQueue, IsNarrowStage}
use Rattle.block_device.specs.declared.kind.BlockKind.{BlockKind}
use Rattle.block_device.specs.declared.stage.ServiceStage.{ServiceStage}
use Rattle.block_device.specs.declared.stage.ServiceStage.TheVariants as stage
use Rattle.rate_gate.specs.Small.{AreSmallLimits, IsSmallBucket}
use Rattle.block_device.specs.Working.{IsSizedData, IsSmallAt, IsSmallStage}
use Rattle.guest_devices.specs.declared.device.Device.TheVariants as kept
use Rattle.guest_devices.specs.Narrow.{IsNarrowKept}
use Rattle.snap_devices.specs.declared.file.FileBlock.{FileBlock}
use Rattle.snap_devices.specs.declared.file.FileData.{FileData}
use Rattle.snap_devices.specs.declared.file.FileDue.{FileDue}
use Rattle.snap_devices.specs.declared.file.FileDue.TheVariants.{Look, Walk, Idle}
use Rattle.snap_devices.specs.declared.file.FileMore.{FileMore}
use Rattle.snap_devices.specs.declared.file.FilePhase.{FilePhase}
use Rattle.snap_devices.specs.declared.file.FilePhase.TheVariants.{Between, Break, Header, Serve, Return}
use Rattle.snap_devices.specs.Blocks.{block, block_data, block_fields}
use Rattle.snap_devices.specs.Devices.{device}
use Rattle.snap_devices.specs.Forms.{block_filed, hand_kept, kept_of, more_filed, phase_kept, queue_kept, rounds_kept, stage_kept}
use Rattle.snap_devices.specs.Limits.{bucket, bucket_fields, chain, chain_fields, chain_marks, end_of_device, is_no_more, limits, maybe_chain, more, no_chain}
use Rattle.snap_devices.specs.Phases.{phase as phase_format}
use Rattle.snap_devices.specs.Queues.{collect, held, maybe_queue, maybe_walk, parts, queue, queue_marks, registers, registers_of, walk, walk_fields, walk_marks, walk_stage}
use Rattle.snap_devices.specs.Serving.{service}
use Rattle.snap_devices.proofs.PieceFits.{of_maybe}

-- ---- its lane

of_registers : (q : Queue) → registers.Fits (registers_of q) → IsNarrowQueue q
unfolding registers
of_registers q own = record {
  descriptors = of64 q.descriptors own.0;
  available = of64 q.available own.1.0;
  used = of64 q.used own.1.1.0;
  size = of16 q.size own.1.1.1.0;
}

of_queue : (a : Accepted) (q : Queue) → (queue a).Fits q → IsNarrowQueue q
unfolding queue
of_queue a q own = of_registers q own.1

-- a queue, if there is one
pub of_some : (o : Option Queue) → maybe_queue.Fits o → IfSome o IsNarrowQueue
unfolding maybe_queue
of_some None own = tt
of_some (Some q) own = of_queue q.accepted q (of_maybe queue (λ q. q.accepted) (no_queue 0) queue_marks q own)

of_shown : (o : FileDue) (q : Queue) → registers.Fits (registers_of q) → IfSome (queue_kept o q) IsNarrowQueue
of_shown Look q own = tt
of_shown Walk q own = of_registers q own
of_shown Idle q own = tt

new_narrow : IsNarrowLane new_lane
new_narrow = record { queue = tt; next = omega arith; used = omega arith }

-- a chain that waits, of which these bytes are held
abbrev pub AreHeld : Option Chain → Type 0
AreHeld o = IfSome o (λ (c : Chain). All IsByte c.got.bytes)

few_of : (ps : List Part) → parts.Fits ps → length ps ≤ 256
unfolding parts
few_of ps own = leb-true (length ps) 256 own.1

held_of : (bytes : List ℕ) → held.Fits bytes → length bytes ≤ 128
unfolding held
held_of bytes own = leb-true (length bytes) 128 own.1

chain_of : (a : Accepted) (c : Chain) → (chain a).Fits c → All IsByte c.got.bytes → IsShortChain true (Some c)
unfolding chain chain_fields
chain_of a c own bytes = (
  few_of c.parts own.0.1.1.0,
  few_of c.got.parts own.0.1.1.1.0,
  held_of c.got.bytes own.0.1.1.1.1,
  λ yes. (of16 c.head own.0.1.0, bytes),
)

pub of_waiting : (o : Option Chain) → maybe_chain.Fits o → AreHeld o → IsShortChain true o
unfolding maybe_chain
of_waiting None own bytes = tt
of_waiting (Some c) own bytes =
    chain_of c.queue.accepted c (of_maybe chain (λ c. c.queue.accepted) no_chain chain_marks c own) bytes

first_of : (d : FileData) (waiting : Option Chain) → block_data.Fits d → IsNarrowLane (rounds_kept d waiting).first
unfolding block_data
first_of d waiting own = record {
  queue = of_shown d.due d.queue own.0.1.0;
  next = of16 d.next own.0.1.1.1.0;
  used = of16 d.used own.0.1.1.1.1;
}

lanes_of : (d : FileData) (waiting : Option Chain) → block_data.Fits d → IsShortChain true waiting → AreShort true (rounds_kept d waiting)
lanes_of d waiting own short =
    ((short, λ yes. first_of d waiting own), (tt, λ yes. new_narrow), (tt, λ yes. new_narrow))

-- ---- its phase

-- the bytes of an entry that were read
abbrev pub HoldsFront : Stage → Type 0
HoldsFront (EntryRest head table at front) = All IsByte front
HoldsFront s = Unit {0}

of_stage : (s : Stage) → walk_stage.Fits s → HoldsFront s → IsNarrowStage s
unfolding walk_stage
of_stage Index own bytes = tt
of_stage Ring own bytes = tt
of_stage (Link head at) own bytes = of16 head own.1.1.0
of_stage AvailEvent own bytes = tt
of_stage IndexAgain own bytes = tt
of_stage (Entry head table at) own bytes = of16 head own.1.1.0
of_stage (EntryRest head table at front) own bytes = (of16 head own.1.1.0, bytes)

pub of_walk : (a : Accepted) (w : Walking) → (walk a).Fits w → HoldsFront w.stage → IsNarrowStage w.stage
unfolding walk walk_fields
of_walk a w own bytes = of_stage w.stage own.0.1.1.0 bytes

-- where the device is
abbrev pub HoldsPhase : Phase → Type 0
HoldsPhase (at.Walk k w) = HoldsFront w.stage
HoldsPhase p = Unit {0}

phase_of : (w : Option Walking) (p : FilePhase) (q : Queue) → maybe_walk.Fits w → phase_format.Fits p → HoldsPhase (phase_kept w p q)
    → IsNarrowPhase (phase_kept w p q)
unfolding phase_format maybe_walk
phase_of (Some w) p q walks own bytes =
    of_walk w.queue.accepted w (of_maybe walk (λ w. w.queue.accepted) (walk_of (no_queue 0) 0) walk_marks w walks) bytes
phase_of None Between q walks own bytes = tt
phase_of None (Break s) q walks own bytes = tt
phase_of None (Header len head) q walks own bytes = of16 head own.1.1.1
phase_of None (Serve place s head) q walks own bytes = of16 head own.1.1.1.1
phase_of None (Return len head s) q walks own bytes = (of16 head own.1.1.1.0, of32 len own.1.1.0)

-- ---- its work and its data

of_service : (s : ServiceStage) → service.Fits s → IsSmallStage s
unfolding service
of_service (stage.Read sector unit more) own = tt
of_service (stage.Put sector unit more) own = tt
of_service stage.PutId own = tt
of_service (stage.Gather sector part more) own = tt
of_service (stage.Disk sector part more) own = tt
of_service stage.Flush own = tt
of_service (stage.Status status used) own = (of8 status own.1.1.0, of32 used own.1.1.1)

work_of : (p : FilePhase) → phase_format.Fits p → IsSmallAt (stage_kept p)
unfolding phase_format
work_of Between own = tt
work_of (Break s) own = tt
work_of (Header len head) own = tt
work_of (Serve place s head) own = of_service s own.1.1.1.0
work_of (Return len head s) own = tt

-- ---- its limits

of_bucket : (k : Kept) → bucket.Fits k → IsSmallBucket k
unfolding bucket bucket_fields
of_bucket k own = record { kept = own.1; burst = of64 k.burst own.0.1.1.0; moment = of64 k.moment own.0.1.1.1.1 }

pub buckets_of : (o : Option Kept) → (optional bucket).Fits o → IfSome o IsSmallBucket
buckets_of None own = tt
buckets_of (Some k) own = of_bucket k (of_optional bucket k own)

-- what may be lacking behind it: what is lacking has no width
record More (m : FileMore) : Type 0 where
  limits : AreSmallLimits m.limits
  waiting : IsShortChain true m.waiting

more_is : (m : FileMore) → more.Fits m → AreHeld m.waiting → More m
unfolding more limits
more_is m own bytes = record {
  limits = (buckets_of m.limits.bandwidth own.0.0, buckets_of m.limits.ops own.0.1);
  waiting = of_waiting m.waiting own.1.0 bytes;
}

more_by : (test : Bool) (m : FileMore) → is_no_more m ≡ test → (is_no_more m ≡ false → more.Fits m) → AreHeld m.waiting → More m
more_by true m is own bytes =
    subst More (sym (end_of_device.only_none m is)) (record { limits = (tt, tt); waiting = tt })
more_by false m is own bytes = more_is m (own is) bytes

data_of : (d : FileData) (limits : Buckets) → block_data.Fits d → AreSmallLimits limits
    → IsSizedData true (record { sectors = d.sectors; drive_id = d.drive_id; is_read_only = d.is_read_only; limits = limits })
unfolding block_data
data_of d limits own small =
    let bytes = of_times byte 20 d.drive_id own.0.1.1.0 in
    (of64 d.sectors own.0.0, λ yes. (bytes.0, every byte.Fits IsByte d.drive_id of8 bytes.1, small))

-- ---- all of it

pub few_held : (c : Collect) → collect.Fits c → length c.held ≤ 128
unfolding collect
few_held c own = held_of c.held own.1

form_narrow : (f : FileBlock) (m : FileMore) → (ended block_fields end_of_device).Fits (f, m) → All IsByte f.from.held
    → AreHeld m.waiting → HoldsPhase (phase_kept f.walk f.phase (hand_kept m.in_hand f.facts.queue))
    → IsNarrowKept (kept.Block (kept_of (f, m)))
unfolding ended block_fields
form_narrow f m own bytes waits front =
    let behind = more_by (is_no_more m) m refl own.1 waits in (
      lanes_of f.facts m.waiting own.0.0 behind.waiting,
      phase_of f.walk f.phase (hand_kept m.in_hand f.facts.queue) own.0.1.1.0 own.0.1.0 front,
      record { held = (few_held f.from own.0.1.1.1.0, bytes); stage = work_of f.phase own.0.1.0 },
      data_of f.facts m.limits own.0.0 behind.limits,
    )

-- what a block device holds are bytes, and so is what a chain that waits holds, and what was read of an entry
abbrev pub HoldsBlock : QueueRounds BlockKind → Type 0
HoldsBlock b =
    All IsByte b.kind.work.from.held × AreHeld b.rounds.first.waiting
    × HoldsPhase (phase_kept (block_filed b).walk (block_filed b).phase (hand_kept (more_filed b).in_hand (block_filed b).facts.queue))

block_narrow : (b : QueueRounds BlockKind) → block.Fits b → HoldsBlock b → IsNarrowKept (kept.Block b)
unfolding block
block_narrow b own bytes =
    subst (λ (it : QueueRounds BlockKind). IsNarrowKept (kept.Block it)) (sym own.0)
    (form_narrow (block_filed b) (more_filed b) own.1.0 bytes.0 bytes.1 bytes.2)

pub block_is : (b : QueueRounds BlockKind) → device.Fits (kept.Block b) → HoldsBlock b → IsNarrowKept (kept.Block b)
unfolding device
block_is b own bytes = block_narrow b own.1.1 bytes
