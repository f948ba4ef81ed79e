-- What an entropy device has to do still, by what its code keeps.
use Rattle.std.specs.Prelude.{ℕ, ◌≡◌, ◌<◌, ◌≤◌, nat_le, nat_lt, Bool, true, false, ◌&&◌, if◌then◌else◌, Option, Some, None, List, length, take}
use Rattle.std.specs.List.{All}
use Rattle.vm_types.specs.declared.op.Op.{Op}
use Rattle.vm_types.specs.declared.op.Op.TheVariants.{Out, Write}
use Rattle.vm_types.specs.declared.op.OutOp.TheVariants.{DrawWord}
use Rattle.vm_types.specs.declared.reply.Reply.{Reply}
use Rattle.device_trace.specs.Doing.{led}
use Rattle.device_trace.specs.Script.{Script}
use Rattle.le_fields.specs.Fields.{IsByte}
use Rattle.vq_split.specs.declared.queue.Part.{Part}
use Rattle.vq_split.specs.Kept.{are_inside}
use Rattle.dev_core.specs.Pieces.{place, share}
use Rattle.rate_gate.specs.Small.{AreSmallLimits}
use Rattle.queue_device.specs.declared.phase.Work.{Work}
use Rattle.queue_device.specs.declared.phase.Work.TheVariants as work
use Rattle.queue_device.specs.Acting.{Acting, Comes, performing}
use Rattle.queue_device.specs.Left.{Hand}
use Rattle.queue_device.specs.Resuming.{HasKept}
use Rattle.queue_device.specs.Service.{Queued}
use Rattle.entropy_device.specs.declared.kind.Stage.{Stage}
use Rattle.entropy_device.specs.declared.kind.Stage.TheVariants as stage
use Rattle.entropy_device.specs.Entropy.{Entropy, entropy, filled}
use Rattle.entropy_device.specs.Words.{filling_from, word_count, writing}

-- its data, and its work
pub record Kept : Type 0 where
  pub own : Entropy
  pub stage : Stage

-- the word of this number is one of so many bytes, of which there are no more than a chain is filled with
pub record IsWord (length index : ℕ) : Type 0 where
  pub most : length ≤ 4096
  pub more : index < word_count length

-- a stage has something to want
abbrev pub IsStage : Stage → Type 0
IsStage stage.Rest = Unit {0}
IsStage (stage.Draw len index to) = IsWord len index
IsStage (stage.Write len index spill) = IsWord len index × (0 < share spill.held spill.to) × (length spill.held ≤ 8)

-- the same as a test
abbrev pub is_word : ℕ → ℕ → Bool
is_word length index = nat_le length 4096 && nat_lt index (word_count length)

abbrev pub is_stage : Stage → Bool
is_stage stage.Rest = true
is_stage (stage.Draw len index to) = is_word len index
is_stage (stage.Write len index spill) = is_word len index && nat_lt 0 (share spill.held spill.to) && nat_le (length spill.held) 8

abbrev pub has_stage : Kept → Bool
has_stage k = is_stage k.stage

-- what keeps these, if there may be such a one
abbrev pub kept_from : Kept → Option Kept
kept_from k = if has_stage k then Some k else None

abbrev pub op_of : Stage → Op
op_of stage.Rest = Op.Idle
op_of (stage.Draw len index to) = Out DrawWord
op_of (stage.Write len index spill) = Write (place spill.to) (take (share spill.held spill.to) spill.held)

abbrev pub serving_of : Stage → Entropy → Reply → Acting Entropy (Option ℕ)
serving_of (stage.Draw len index to) e reply = performing (led (filling_from len index to) reply) e filled
serving_of (stage.Write len index spill) e reply = performing (led (writing len index spill.held spill.to) reply) e filled
serving_of stage.Rest e reply = Comes e None

abbrev pub hand_of : Stage → Hand Entropy
hand_of s = record {
  op = op_of s;
  answering = λ e reply. Comes e false;
  taking = λ e reply. Comes e None;
  serving = serving_of s;
}

-- these parts lie inside RAM, and aren't more than a chain has
abbrev pub are_parts : ℕ → List Part → Bool
are_parts pages parts = are_inside pages parts && nat_le (length parts) 256

-- the stages that it may be in, by what its device is at
abbrev pub is_work : Work → ℕ → Stage → Bool
is_work work.Rest pages stage.Rest = true
is_work (work.Serve k) pages (stage.Draw len index to) = is_word len index && are_parts pages to
is_work (work.Serve k) pages (stage.Write len index spill) = is_stage (stage.Write len index spill) && are_parts pages spill.to
is_work w pages s = false

-- whatever data it has
abbrev pub AnyEntropy : Entropy → Type 0
AnyEntropy e = Unit {0}

-- ---- the widths of what it keeps

-- what is held are bytes
abbrev pub IsSmallStage : Stage → Type 0
IsSmallStage stage.Rest = Unit {0}
IsSmallStage (stage.Draw len index to) = Unit {0}
IsSmallStage (stage.Write len index spill) = All IsByte spill.held

-- what it is at, which is small where each reply was, `sized`
pub record SizedStage (sized : Bool) : Type 0 where
  pub stage : Stage
  pub small : sized ≡ true → IsSmallStage stage

abbrev pub sized_hand : (sized : Bool) → SizedStage sized → Hand Entropy
sized_hand sized g = hand_of g.stage

abbrev pub is_sized_work : (sized : Bool) → Work → ℕ → SizedStage sized → Bool
is_sized_work sized w pages g = is_work w pages g.stage

abbrev pub IsSizedData : Bool → Entropy → Type 0
IsSizedData sized e = sized ≡ true → AreSmallLimits e.limits

-- what is kept where this is left
abbrev pub EntropyKept : ℕ → ℕ → Script (Queued Entropy) → Type 0
EntropyKept port pages t = HasKept entropy hand_of is_work AnyEntropy false true port pages t
