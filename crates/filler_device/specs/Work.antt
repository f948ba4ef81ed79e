-- What the filler has to do still, by what its code keeps.
use Rattle.std.specs.Prelude.{ℕ, ◌<◌, nat_le, nat_lt, Bool, true, false, ◌&&◌, Option, Some, None, length, take}
use Rattle.vm_types.specs.declared.op.Op.{Op}
use Rattle.vm_types.specs.declared.op.Op.TheVariants.{Read, Write}
use Rattle.vm_types.specs.declared.reply.Reply.{Reply}
use Rattle.device_trace.specs.Doing.{led}
use Rattle.dev_core.specs.Collecting.{collect_left}
use Rattle.vq_split.specs.Kept.{are_inside}
use Rattle.dev_core.specs.Pieces.{place, room, share}
use Rattle.queue_device.specs.declared.phase.Work.{Work}
use Rattle.queue_device.specs.declared.phase.Work.TheVariants as work
use Rattle.queue_device.specs.Acting.{Acting, Comes, performing}
use Rattle.queue_device.specs.Chains.{Taken}
use Rattle.device_trace.specs.Script.{Script}
use Rattle.queue_device.specs.Left.{Hand}
use Rattle.queue_device.specs.Resuming.{HasKept}
use Rattle.queue_device.specs.Service.{Queued}
use Rattle.queue_device.specs.Spilling.{spill_left}
use Rattle.filler_device.specs.declared.kind.Stage.{Stage}
use Rattle.filler_device.specs.declared.kind.Stage.TheVariants as stage
use Rattle.filler_device.specs.Filler.{Filler, filler, only_read}

-- its data, and its work
pub record Kept : Type 0 where
  pub own : Filler
  pub stage : Stage

-- a stage has something to want
abbrev pub IsStage : Stage → Type 0
IsStage stage.Rest = Unit {0}
IsStage (stage.Take from) = (length from.held < 1) × (0 < room from.from)
IsStage (stage.Fill spill len) = 0 < share spill.held spill.to

abbrev pub op_of : Stage → Op
op_of stage.Rest = Op.Idle
op_of (stage.Take from) = Read (place from.from) (room from.from)
op_of (stage.Fill spill len) = Write (place spill.to) (take (share spill.held spill.to) spill.held)

abbrev pub taking_of : Stage → Filler → Reply → Acting Filler (Option Taken)
taking_of (stage.Take from) e reply =
    performing (led (collect_left 1 from) reply) e (λ f got. Comes f (Some (only_read got)))
taking_of stage e reply = Comes e None

abbrev pub serving_of : Stage → Filler → Reply → Acting Filler (Option ℕ)
serving_of (stage.Fill spill len) e reply = performing (led (spill_left spill) reply) e (λ f left. Comes f (Some len))
serving_of stage e reply = Comes e None

abbrev pub hand_of : Stage → Hand Filler
hand_of s = record {
  op = op_of s;
  answering = λ e reply. Comes e false;
  taking = taking_of s;
  serving = serving_of s;
}

-- the stages that a filler may be in, by what its device is at
abbrev pub is_work : Work → ℕ → Stage → Bool
is_work work.Rest pages stage.Rest = true
is_work (work.Take k) pages (stage.Take from) =
    nat_lt (length from.held) 1 && nat_lt 0 (room from.from) && are_inside pages from.from
    && nat_le (length from.from) 256
is_work (work.Serve k) pages (stage.Fill spill len) =
    nat_lt 0 (share spill.held spill.to) && are_inside pages spill.to && nat_le (length spill.to) 256
is_work w pages s = false

-- whatever data it has
abbrev pub AnyFiller : Filler → Type 0
AnyFiller e = Unit {0}

-- what is kept where this is left
abbrev pub FillerKept : ℕ → ℕ → Script (Queued Filler) → Type 0
FillerKept port pages t = HasKept filler hand_of is_work AnyFiller false true port pages t
