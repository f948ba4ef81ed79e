-- The limits of a network device change only where a frame passes and where the API gives others.
use Rattle.std.proofs.Common.{◌≡◌, ℕ, ◌-◌, refl, ◌∙◌, Bool, true, false, if◌then◌else◌, Option, Some, None, List, drop, length}
use Rattle.vm_types.specs.declared.reply.Reply.{Reply}
use Rattle.vm_types.specs.declared.reply.Reply.TheVariants.{Frame}
use Rattle.device_trace.specs.Doing.{Doing, Gives, Wants, led}
use Rattle.dev_core.specs.Pieces.{put_all, readable, writable}
use Rattle.queue_device.specs.declared.lanes.Which.{Which}
use Rattle.queue_device.specs.declared.lanes.Which.TheVariants.{First, Second, Third}
use Rattle.queue_device.specs.Acting.{Acting, Acts, Comes, performing}
use Rattle.queue_device.specs.Chains.{Chain}
use Rattle.queue_device.specs.Owning.{ActingMoves, HandLeaves, Leaves}
use Rattle.net_device.specs.declared.kind.Stage.{Stage}
use Rattle.net_device.specs.declared.kind.Stage.TheVariants as stage
use Rattle.net_device.specs.Frames.{header_size, is_frame, piece_sent, pieces, sending_all, sent_length, taken_frame, taking}
use Rattle.net_device.specs.Net.{Net, answered_by, emptied, has_room, net, received, served_by}
use Rattle.net_device.specs.Work.{AtWork, answering_of, hand_of, sent, serving_of, written}

abbrev pub Same : Net → Net → Type 0
Same e f = (f.rx ≡ e.rx) × (f.tx ≡ e.tx)

from : {A : Type 0} (e f : Net) (t : Acting Net A) → Same e f → ActingMoves Same f t → ActingMoves Same e t
from e f (Comes g a) first moves = (moves.0 ∙ first.0, moves.1 ∙ first.1)
from e f (Acts g op on) first moves = ((moves.0.0 ∙ first.0, moves.0.1 ∙ first.1), moves.1)

performs : {A B : Type 0} (t : Doing A) (e : Net) (more : Net → A → Acting Net B)
    → ((f : Net) (a : A) → ActingMoves Same f (more f a)) → ActingMoves Same e (performing t e more)
performs (Gives a) e more on = on e a
performs (Wants op next) e more on = ((refl, refl), λ f reply fit. performs (next reply) f more on)

-- ---- from the link

received_leaves : (e : Net) (came : Option (List ℕ)) → ActingMoves Same e (received e came)
received_leaves e None = (refl, refl)
received_leaves e (Some text) = (refl, refl)

answer_leaves : (e : Net) (reply : Reply) → ActingMoves Same e (answered_by reply e)
answer_leaves e (Frame size) =
    from e (emptied e) (performing (taken_frame size) (emptied e) received) (refl, refl)
    (performs (taken_frame size) (emptied e) received received_leaves)
answer_leaves e reply = (refl, refl)

-- ---- a chain

receive_leaves : (test : Bool) (c : Chain) (e : Net)
    → ActingMoves Same e (if test then performing {B = Option ℕ} (put_all e.text (writable c.parts)) (emptied e) (λ f left. Comes f (Some (length e.text)))
    else Comes (emptied e) (Some 0))
receive_leaves true c e =
    from e (emptied e) (performing {B = Option ℕ} (put_all e.text (writable c.parts)) (emptied e) (λ f left. Comes f (Some (length e.text)))) (refl, refl)
    (performs {B = Option ℕ} (put_all e.text (writable c.parts)) (emptied e) (λ f left. Comes f (Some (length e.text))) (λ f left. (refl, refl)))
receive_leaves false c e = (refl, refl)

transmit_leaves : (test : Bool) (c : Chain) (e : Net)
    → ActingMoves Same e (if test then performing {B = Option ℕ} (sending_all header_size (readable c.parts)) e (λ f done. Comes f (Some 0))
    else Comes e (Some 0))
transmit_leaves true c e =
    performs {B = Option ℕ} (sending_all header_size (readable c.parts)) e (λ f done. Comes f (Some 0)) (λ f done. (refl, refl))
transmit_leaves false c e = (refl, refl)

serve_leaves : (k : Which) (c : Chain) (e : Net) → ActingMoves Same e (served_by k c e)
serve_leaves First c e = receive_leaves (has_room c e) c e
serve_leaves Second c e = transmit_leaves (is_frame (sent_length c.parts)) c e
serve_leaves Third c e = (refl, refl)

pub leaves : Leaves net Same
leaves = record {
  same = λ e. (refl, refl);
  again = λ e f g first second. (second.0 ∙ first.0, second.1 ∙ first.1);
  answer = answer_leaves;
  begun = λ k e. (refl, refl);
  take = λ k parts e. (refl, refl);
  serve = serve_leaves;
  over = λ k e. (refl, refl);
  reset = λ e. (refl, refl);
}

-- ---- the work that is begun

answering_leaves : (s : Stage) (bytes : List ℕ) (e : Net) (reply : Reply) → ActingMoves Same e (answering_of s bytes e reply)
answering_leaves (stage.Take size index) bytes e reply =
    performs (led (taking (pieces size - index) size index bytes) reply) e received received_leaves
answering_leaves stage.Rest bytes e reply = (refl, refl)
answering_leaves (stage.Receive at to) bytes e reply = (refl, refl)
answering_leaves (stage.Read skip from) bytes e reply = (refl, refl)
answering_leaves (stage.Send piece skip from) bytes e reply = (refl, refl)
answering_leaves stage.End bytes e reply = (refl, refl)

serving_leaves : (s : Stage) (bytes : List ℕ) (e : Net) (reply : Reply) → ActingMoves Same e (serving_of s bytes e reply)
serving_leaves (stage.Receive at to) bytes e reply =
    performs (led (put_all (drop at bytes) to) reply) e (λ f left. written (length bytes) f) (λ f left. (refl, refl))
serving_leaves (stage.Read skip from) bytes e reply =
    performs (led (sending_all skip from) reply) e (λ f done. sent f) (λ f done. (refl, refl))
serving_leaves (stage.Send piece skip from) bytes e reply =
    performs (led (piece_sent piece (sending_all skip from)) reply) e (λ f done. sent f) (λ f done. (refl, refl))
serving_leaves stage.End bytes e reply = (refl, refl)
serving_leaves stage.Rest bytes e reply = (refl, refl)
serving_leaves (stage.Take size index) bytes e reply = (refl, refl)

pub hand_leaves : (a : AtWork) → HandLeaves Same (hand_of a)
hand_leaves a = record {
  answering = answering_leaves a.stage a.bytes;
  taking = λ e reply. (refl, refl);
  serving = serving_leaves a.stage a.bytes;
}
