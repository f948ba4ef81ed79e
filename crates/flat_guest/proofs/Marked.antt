-- The pages are marked that were written: at first none, and after an event as before it.
use Rattle.std.proofs.Common.{◌≡◌, ℕ, zero, suc, ◌==◌, Bool, true, false, cond, ◌&&◌, ◌||◌, refl, sym, ap, ◌∙◌, List, [], ◌∷◌, Some, replicate, slice_get, slice_set}
use Rattle.std.proofs.lemmas.Bool.{and_right, eqb-false, eqb-true}
use Rattle.vm_types.specs.declared.ids.PlaceId.{PlaceId}
use Rattle.vm_types.specs.declared.op.Op.{Op}
use Rattle.vm_types.specs.declared.reply.Reply.{Reply}
use Rattle.vm_types.specs.Ids.{same_place}
use Rattle.guest_pages.specs.Marks.{AreMarks, is_written, marks_after}
use Rattle.flat_guest.specs.Guest.{none_written}
use Rattle.flat_guest.proofs.Lists.{get_set_other}

set_is_true : (marks : List Bool) (k : ℕ) (m : Bool) → slice_get (slice_set marks k true) k ≡ Some m → m ≡ true
set_is_true [] k m is = cc
set_is_true (b ∷ marks) zero m is = let here : Some true ≡ Some m = is in cc
set_is_true (b ∷ marks) (suc k) m is = set_is_true marks k m is

or_true : (a : Bool) → true ≡ (a || true)
or_true true = refl
or_true false = refl

or_false : (a : Bool) → a ≡ (a || false)
or_false true = refl
or_false false = refl

module _ (marks : List Bool) (written : ℕ → Bool) (are : AreMarks marks written) where
  -- the page of this number is written, or another
  at_page : (same : Bool) (k i : ℕ) (m : Bool) → (k == i) ≡ same → slice_get (slice_set marks k true) i ≡ Some m
      → m ≡ (written i || (same && true))
  at_page true k i m same is =
      let here : slice_get (slice_set marks k true) k ≡ Some m =
      ap (λ (n : ℕ). slice_get (slice_set marks k true) n) (eqb-true k i same) ∙ is in
      set_is_true marks k m here ∙ or_true (written i)
  at_page false k i m same is =
      are i m (sym (get_set_other marks i k true (λ eq. eqb-false k i same (sym eq))) ∙ is) ∙ or_false (written i)

  by_written : (wrote : Bool) (k i : ℕ) (m : Bool) → slice_get (cond wrote (slice_set marks k true) marks) i ≡ Some m
      → m ≡ (written i || ((k == i) && wrote))
  by_written true k i m is = at_page (k == i) k i m refl is
  by_written false k i m is =
      are i m is ∙ or_false (written i) ∙ ap (λ (b : Bool). written i || b) (sym (and_right (k == i) false refl))

  pub marks_on : (place : PlaceId) (op : Op) (reply : Reply)
      → AreMarks (marks_after place marks op reply)
      (λ i. written i || (same_place place (PlaceId.Page i) && is_written op reply))
  marks_on (PlaceId.Page k) op reply i m is = by_written (is_written op reply) k i m is
  marks_on (PlaceId.Port k) op reply i m is = are i m is ∙ or_false (written i)
  marks_on PlaceId.Board op reply i m is = are i m is ∙ or_false (written i)
  marks_on PlaceId.Out op reply i m is = are i m is ∙ or_false (written i)

-- marks that are all clear
pub none_marked : (count : ℕ) → AreMarks (replicate count false) none_written
none_marked zero i m is = cc
none_marked (suc count) zero m is = cc
none_marked (suc count) (suc i) m is = none_marked count i m is
