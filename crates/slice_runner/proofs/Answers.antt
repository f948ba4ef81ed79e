-- What a clock answered, entry by entry.
use Rattle.std.proofs.Common.{◌≡◌, ℕ, refl, sym, ap, ◌∙◌, subst, true, List, [], ◌∷◌, ◌++◌, Option, Some, None}
use Rattle.vm_types.specs.declared.entry.Entry.{Entry}
use Rattle.vm_types.specs.declared.op.Op.{Op}
use Rattle.vm_types.specs.declared.op.OutOp.TheVariants.{Clock}
use Rattle.vm_types.specs.declared.reply.Reply.{Reply}
use Rattle.vm_types.specs.Ids.{is_out}
use Rattle.timer_trace.specs.States.{timer_wants, wants_by}
use Rattle.timer_trace.specs.Traces.{advance, ask}
use Rattle.timer_trace.specs.declared.timer.Timer.{Timer}
use Rattle.flat_guest.specs.Body.{out_reply}
use Rattle.flat_guest.specs.Given.{as_given}
use Rattle.stamp_merge.specs.declared.layout.Layout.{Layout}
use Rattle.vm_host.specs.Telling.{AreNext, ClockKnown, Gives, later}
use Rattle.slice_runner.specs.Runs.{HasAnswered, IsAsked}
use Rattle.slice_runner.specs.Slices.{answer_in, answers_of}
use Rattle.slice_runner.specs.Values.{route_among}

in_more : (op : Op) (reply : Reply) (xs ys : List ℕ) → answer_in op reply (xs ++ ys) ≡ answer_in op reply xs ++ ys
in_more (Op.Out Clock) (Reply.Word answer) xs ys = refl
in_more op reply xs ys = refl

answers_more : (es : List Entry) (e : Entry) → answers_of (es ++ e ∷ []) ≡ answers_of es ++ answer_in e.op e.reply []
answers_more [] e = refl
answers_more (d ∷ es) e =
    ap (answer_in d.op d.reply) (answers_more es e) ∙ in_more d.op d.reply (answers_of es) (answer_in e.op e.reply [])

pub nil_more : (xs : List ℕ) → xs ++ [] ≡ xs
nil_more [] = refl
nil_more (x ∷ xs) = ap (λ (ys : List ℕ). x ∷ ys) (nil_more xs)

pub next_more : (left mid now : ℕ → ℕ) (answers : List ℕ) (answer : ℕ) → AreNext left answers mid → answer ≡ mid 0
    → now ≡ later mid → AreNext left (answers ++ answer ∷ []) now
next_more left mid now [] answer are is rest =
    (is ∙ ap (λ (f : ℕ → ℕ). f 0) are, rest ∙ ap later are)
next_more left mid now (a ∷ answers) answer are is rest = (are.0, next_more (later left) mid now answers answer are.1 is rest)

module _ (start old now : ClockKnown) (es items : List Entry) (e : Entry) (op : Op) (given : Option Reply) (layout : Layout)
    (had : HasAnswered start (answers_of es) old) (items_is : items ≡ es ++ e ∷ []) (op_is : e.op ≡ op)
    (place_is : e.place ≡ route_among layout e.op) (out : is_out e.place ≡ true → e.reply ≡ out_reply op (as_given given)) where
  all : answers_of items ≡ answers_of es ++ answer_in e.op e.reply []
  all = ap answers_of items_is ∙ answers_more es e

  asked_now : op ≡ ask → (answer : ℕ) → given ≡ Some (Reply.Word answer) → Gives old answer now
      → HasAnswered start (answers_of items) now
  asked_now is answer given_is gives =
      let outside : is_out e.place ≡ true = ap is_out (place_is ∙ ap (route_among layout) (op_is ∙ is)) in
      let reply : e.reply ≡ Reply.Word answer = out outside ∙ ap (λ (o : Option Reply). out_reply op (as_given o)) given_is in
      let one : answer_in e.op e.reply [] ≡ answer ∷ [] =
      ap (λ (o : Op). answer_in o e.reply []) (op_is ∙ is) ∙ ap (λ (r : Reply). answer_in ask r []) reply in
      let whole : answers_of items ≡ answers_of es ++ answer ∷ [] =
      all ∙ ap (λ (xs : List ℕ). answers_of es ++ xs) one in
      record {
        still = λ tells. gives.still (had.still tells);
        are = λ tells. subst (λ (xs : List ℕ). AreNext start.left xs now.left) (sym whole)
            (next_more start.left old.left now.left (answers_of es) answer (had.are tells) (gives.next (had.still tells))
            (gives.rest (had.still tells)));
      }

  asked_not : (due : ℕ) → op ≡ advance due → now ≡ old → HasAnswered start (answers_of items) now
  asked_not due is same =
      let none : answer_in e.op e.reply [] ≡ [] = ap (λ (o : Op). answer_in o e.reply []) (op_is ∙ is) in
      let whole : answers_of items ≡ answers_of es =
      all ∙ ap (λ (xs : List ℕ). answers_of es ++ xs) none ∙ nil_more (answers_of es) in
      subst (λ (k : ClockKnown). HasAnswered start (answers_of items) k) (sym same)
      (subst (λ (xs : List ℕ). HasAnswered start xs old) (sym whole) had)

  by_due : (due : Option ℕ) → op ≡ wants_by due → IsAsked (wants_by due) old given now
      → HasAnswered start (answers_of items) now
  by_due None is asked = asked_now is asked.0 asked.1 asked.2
  by_due (Some due) is asked = asked_not due is asked.1

  pub answered : (t : Timer) → op ≡ timer_wants t → IsAsked op old given now → HasAnswered start (answers_of items) now
  answered t is asked = by_due t.due is (subst (λ (o : Op). IsAsked o old given now) is asked)
