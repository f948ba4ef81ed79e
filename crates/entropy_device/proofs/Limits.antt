-- The limits of an entropy device change only where a chain passes.
use Rattle.std.proofs.Common.{◌≡◌, ℕ, refl, ◌∙◌, Bool, true, false, if◌then◌else◌, ◌==◌, Some, None, List}
use Rattle.vm_types.specs.declared.reply.Reply.{Reply}
use Rattle.device_trace.specs.Doing.{Doing, Gives, Wants, led}
use Rattle.vq_split.specs.declared.queue.Part.{Part}
use Rattle.dev_core.specs.Pieces.{readable, total}
use Rattle.queue_device.specs.Acting.{Comes, performing}
use Rattle.queue_device.specs.Owning.{ActingMoves, HandLeaves, Leaves}
use Rattle.entropy_device.specs.declared.kind.Stage.{Stage}
use Rattle.entropy_device.specs.declared.kind.Stage.TheVariants as stage
use Rattle.entropy_device.specs.Entropy.{Entropy, entropy, filled, kept_of}
use Rattle.entropy_device.specs.Words.{filled_length, filling_from, writing}
use Rattle.entropy_device.specs.Work.{hand_of, serving_of}

abbrev pub Same : Entropy → Entropy → Type 0
Same e f = f.limits ≡ e.limits

performs : (t : Doing ℕ) (e : Entropy) → ActingMoves Same e (performing t e filled)
performs (Gives n) e = refl
performs (Wants op next) e = (refl, λ f reply fit. performs (next reply) f)

take_leaves : (test : Bool) (parts : List Part) (e : Entropy)
    → ActingMoves Same e (if test then Comes e (Some (kept_of parts)) else Comes e None)
take_leaves true parts e = refl
take_leaves false parts e = refl

pub leaves : Leaves entropy Same
leaves = record {
  same = λ e. refl;
  again = λ e f g first second. second ∙ first;
  answer = λ e reply. refl;
  begun = λ k e. refl;
  take = λ k parts e. take_leaves (total (readable parts) == 0) parts e;
  serve = λ k c e. performs (filling_from (filled_length c.parts) 0 c.parts) e;
  over = λ k e. refl;
  reset = λ e. refl;
}

serving_leaves : (s : Stage) (e : Entropy) (reply : Reply) → ActingMoves Same e (serving_of s e reply)
serving_leaves stage.Rest e reply = refl
serving_leaves (stage.Draw len index to) e reply = performs (led (filling_from len index to) reply) e
serving_leaves (stage.Write len index spill) e reply = performs (led (writing len index spill.held spill.to) reply) e

pub hand_leaves : (s : Stage) → HandLeaves Same (hand_of s)
hand_leaves s = record { answering = λ e reply. refl; taking = λ e reply. refl; serving = serving_leaves s }
