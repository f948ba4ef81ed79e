-- What is noted and written down grows by an act, and joins.
use Rattle.std.proofs.Common.{◌≡◌, ℕ, zero, suc, ◌+◌, ◌<◌, Bool, true, false, not, cond, List, [], ◌∷◌, ◌++◌, map, length, Contains, inr, refl, sym, ap, ◌∙◌, subst, arith, append-nil, length-append}
use Rattle.std.specs.List.{AllByRecursion}
use Rattle.std.proofs.lemmas.List.{map-append}
use Rattle.std.proofs.lemmas.List.Elements.{Contains-push, filter-append}
use mathlib.Core.Option.{some, some-ne-none}
use lib.ListN.{get_elem?}
use Rattle.vm_types.specs.declared.entry.Entry.{Entry}
use Rattle.vm_types.specs.declared.ids.ActorId.{ActorId}
use Rattle.vm_types.specs.declared.ids.PlaceId.{PlaceId}
use Rattle.vm_types.specs.declared.op.Op.{Op}
use Rattle.vm_types.specs.Ids.{is_out}
use Rattle.turn_table.specs.declared.view.Noted.{Noted}
use Rattle.turn_table.specs.declared.view.Round.{Round}
use Rattle.turn_table.specs.declared.view.View.{View}
use Rattle.turn_table.specs.Views.{joined, newcomer, noted, wrote}
use Rattle.turn_table.specs.Acts.{IsEntryAt}
use Rattle.turn_table.specs.Blanks.{IsMadeAt, IsNoted}
use Rattle.turn_law.specs.Rounds.{AreIndexed, entry_of, placed}
use Rattle.turn_work.specs.Work.{AreNamed, HasNoted}

both : {A : Type 0} (P : A → Type 0) (xs ys : List A) → AllByRecursion P xs → AllByRecursion P ys → AllByRecursion P (xs ++ ys)
both P [] ys h k = k
both P (x ∷ xs) ys h k = (h.0, both P xs ys h.1 k)

inside_of : {A : Type 0} (xs : List A) (i : ℕ) (x : A) → get_elem? xs i ≡ some x → i < length xs
inside_of [] i x at = absurd (some-ne-none x (sym at))
inside_of (y ∷ xs) zero x at = omega arith
inside_of (y ∷ xs) (suc i) x at = let h = inside_of xs i x at in omega (arith, h)

abbrev has_place : Entry → Bool
has_place e = not (is_out e.place)

placed_more : (es : List Entry) (e : Entry) (out : Bool) → is_out e.place ≡ out → placed (es ++ e ∷ []) ≡ placed es ++ cond (not out) (e ∷ []) []
placed_more es e out is =
    filter-append has_place es (e ∷ []) ∙ ap (λ (b : Bool). let r : List Entry = placed es ++ cond (not b) (e ∷ []) [] in r) is

module _ {P : Type 0} (round : Round P) (index : PlaceId → ℕ) where
  pub noted_none : (v : View P) → v ≡ newcomer 1 round → HasNoted round index v []
  noted_none v is = record {
    round_is = ap (λ (u : View P). u.round) is;
    same = ap (λ (u : View P). map entry_of u.entries) is;
    indexed = subst (λ (u : View P). AreIndexed index u.entries) (sym is) tt;
    inside = subst (λ (u : View P). AllByRecursion (λ (x : Noted P). x.place < length round.opens) u.entries) (sym is) tt;
  }

  pub noted_act : (v after : View P) (es now : List Entry) (i : ℕ) (e : Entry) (actor : ActorId) (op : Op) (clock : ℕ) (left : P) → AreNamed index round → HasNoted round index v es → after ≡ wrote v i e left → IsEntryAt v i e actor op clock → now ≡ es ++ e ∷ [] → HasNoted round index after now
  noted_act v after es now i e actor op clock left named h is at more =
      let opened : get_elem? round.opens i ≡ some at.0 = ap (λ (r : Round P). get_elem? r.opens i) (sym h.round_is) ∙ at.1 in
      let name = named i at.0 opened in
      let inner : is_out e.place ≡ false = ap is_out at.2.place_is ∙ name.1 in
      let last : List (Noted P) = noted i e left ∷ [] in
      record {
        round_is = ap (λ (u : View P). u.round) is ∙ h.round_is;
        same = ap (λ (u : View P). map entry_of u.entries) is ∙ map-append entry_of v.entries last ∙ ap (λ l. l ++ e ∷ []) h.same ∙ sym (ap placed more ∙ placed_more es e false inner);
        indexed = subst (λ (u : View P). AreIndexed index u.entries) (sym is)
            (both (λ (x : Noted P). x.place ≡ index x.entry.place) v.entries last h.indexed (sym name.0 ∙ ap index (sym at.2.place_is), tt));
        inside = subst (λ (u : View P). AllByRecursion (λ (x : Noted P). x.place < length round.opens) u.entries) (sym is)
            (both (λ (x : Noted P). x.place < length round.opens) v.entries last h.inside (inside_of round.opens i at.0 opened, tt));
      }

  pub noted_out : (v : View P) (es now : List Entry) (e : Entry) → is_out e.place ≡ true → now ≡ es ++ e ∷ [] → HasNoted round index v es → HasNoted round index v now
  noted_out v es now e out more h = record {
    round_is = h.round_is;
    same = h.same ∙ sym (ap placed more ∙ placed_more es e true out ∙ append-nil (placed es));
    indexed = h.indexed;
    inside = h.inside;
  }

  pub noted_join : (v w after : View P) (es fs : List Entry) → after ≡ joined v w → HasNoted round index v es → HasNoted round index w fs → HasNoted round index after (es ++ fs)
  noted_join v w after es fs is h k = record {
    round_is = ap (λ (u : View P). u.round) is ∙ h.round_is;
    same = ap (λ (u : View P). map entry_of u.entries) is ∙ map-append entry_of v.entries w.entries ∙ (λ i. h.same i ++ k.same i) ∙ sym (filter-append has_place es fs);
    indexed = subst (λ (u : View P). AreIndexed index u.entries) (sym is) (both (λ (x : Noted P). x.place ≡ index x.entry.place) v.entries w.entries h.indexed k.indexed);
    inside = subst (λ (u : View P). AllByRecursion (λ (x : Noted P). x.place < length round.opens) u.entries) (sym is)
        (both (λ (x : Noted P). x.place < length round.opens) v.entries w.entries h.inside k.inside);
  }

-- as many entries and one
pub one_more : {P : Type 0} (v after : View P) (i : ℕ) (e : Entry) (left : P) → after ≡ wrote v i e left → length after.entries ≡ length v.entries + 1
one_more {P} v after i e left is =
    ap (λ (u : View P). length u.entries) is ∙ length-append v.entries (noted i e left ∷ [])

-- who took a blank knows that the place is made
pub made_by : {P : Type 0} (made : P → Type 0) (i : ℕ) (e : Entry) (v after : View P) (had has : ℕ) → IsNoted made i e v after had has → has < had → IsMadeAt made after i
made_by {P} made i e v after had has n spent =
    inr (noted i e n.left, subst (λ (l : List (Noted P)). Contains l (noted i e n.left)) (sym (ap (λ (u : View P). u.entries) n.view)) (Contains-push v.entries (noted i e n.left)), refl, n.spent spent)
