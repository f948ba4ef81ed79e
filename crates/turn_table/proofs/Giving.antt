-- What is done in a turn, from the slot's first value to the store that gives it back.
use Rattle.std.proofs.Common.{◌≡◌, ℕ, ◌+◌, ◌*◌, ◌^◌, ◌<◌, ◌⊎◌, ⊎_elim, inl, inr, List, [], ◌∷◌, length, Contains, max, sym, ap, ◌∙◌, subst, arith}
use mathlib.Core.Option.{none}
use lib.ListN.{get_elem?}
use Rattle.atomic_table.specs.Table.{step, Allows}
use Rattle.atomic_table.specs.Seated.{TableId}
use Rattle.atomic_table.specs.declared.shared.Seat.{Seat}
use Rattle.vm_types.specs.declared.ids.ActorId.{ActorId}
use Rattle.vm_types.specs.declared.op.Op.{Op}
use Rattle.vm_types.specs.declared.reply.Reply.{Reply}
use Rattle.vm_types.specs.declared.entry.Entry.{Entry}
use Rattle.turn_table.specs.declared.held.Held.{Held}
use Rattle.turn_table.specs.declared.view.View.{View}
use Rattle.turn_table.specs.declared.view.Round.{Round}
use Rattle.turn_table.specs.declared.view.Turn.{Turn}
use Rattle.turn_table.specs.declared.view.Noted.{Noted}
use Rattle.turn_table.specs.Views.{wrote}
use Rattle.turn_table.specs.Rule.{IsKept}
use Rattle.place_locks.specs.Held.{IsEntryOf}
use Rattle.turn_table.specs.Acts.{IsActed}
use Rattle.turn_table.specs.Blanks.{CanFeed, IsMadeAt, IsNoted}
use Rattle.turn_table.specs.Steps.{Mine, IsReady, IsTaken, HasTurn, Acted, Releases, put_down, with_turn}
use Rattle.turn_table.proofs.Taking.{gives_turn}

abbrev first_of : {A : Type 0} → A → List (ℕ × A) → A
first_of d [] = d
first_of d (x ∷ xs) = x.1

-- one slot has one value
pub slot_same : {A : Type 0} (i : ℕ) (a b : A) (xs : List (ℕ × A)) → xs ≡ (i, a) ∷ [] → xs ≡ (i, b) ∷ [] → b ≡ a
slot_same {A} i a b xs p q = ap (λ (l : List (ℕ × A)). first_of a l) (sym q ∙ p)

pub has_turn : {P : Type 0} (made : P → Type 0) (i n : ℕ) (before after : Mine P) (t : IsTaken made i n before after) → before.1 ≡ [] → HasTurn made i n t.turn after
has_turn {P} made i n before after t bare = record {
  turn = ap (λ (v : View P). v.turn) t.view;
  place = t.place;
  word = t.word;
  slot = t.slot ∙ ap (λ l. (i, t.turn.held) ∷ l) bare;
  low = rw t.view t.low;
  first = t.first;
  opened = rw t.view t.opened;
  id = t.id;
  stays = rw t.view t.stays;
}

pub made_still : {P : Type 0} (made : P → Type 0) (i : ℕ) (v w : View P) → w.round ≡ v.round → w.entries ≡ v.entries → IsMadeAt made v i → IsMadeAt made w i
made_still {P} made i v w round entries known =
    ⊎_elim (λ a. inl (a.0, ap (λ (r : Round P). get_elem? r.opens i) round ∙ a.1, a.2))
    (λ x. inr (x.0, subst (λ (l : List (Noted P)). Contains l x.0) (sym entries) x.1, x.2, x.3))
    known

pub fed_still : {P : Type 0} (made : P → Type 0) (i b c : ℕ) (v w : View P) → w.round ≡ v.round → w.entries ≡ v.entries → c ≡ b → CanFeed made v i b → CanFeed made w i c
fed_still {P} made i b c v w round entries same fed =
    ⊎_elim (λ f. inl (made_still made i v w round entries f)) (λ lt. inr (subst (λ (n : ℕ). 0 < n) (sym same) lt)) fed

-- what is noted of a seat that has the turn is noted of it without
pub noted_still : {P : Type 0} (made : P → Type 0) (i : ℕ) (e : Entry) (v w after : View P) (t : Turn P) (b c d : ℕ) → w ≡ with_turn v t → d ≡ b → IsNoted made i e w after d c → IsNoted made i e v after b c
noted_still {P} made i e v w after t b c d is same n = record {
  left = n.left;
  view = n.view ∙ ap (λ (u : View P). wrote u i e n.left) is;
  stays = λ m. n.stays (made_still made i v w (ap (λ (u : View P). u.round) is) (ap (λ (u : View P). u.entries) is) m);
  spent = subst (λ (k : ℕ). c < k → made n.left) same n.spent;
}

module _ {P V : Type 0} (touch : V → ActorId → Op → Reply × V) (value : P → V) (made : P → Type 0) (parts : ℕ) where
  pub gives_there : (slots id i n new r : ℕ) (me left : Mine P) (t : Turn P) (e : Entry) (actor : ActorId) (op : Op) (clock b c : ℕ) → HasTurn made i n t me → me.0.round.number ≡ r → Acted touch value made r e actor op clock i me.1 left.1 b c → left.0 ≡ me.0 → clock < 2 ^ 63 → 0 < me.0.parts → length me.0.entries < 2 ^ 32 * me.0.parts → i < slots → new ≡ n + 2 → Allows (IsKept touch value made parts) slots id left i (λ _. new) (λ _. Releases (step slots i new 0 none) left new)
  gives_there slots id i n new r me left t e actor op clock b c turn round acted view small part room lt is =
      let v : View P = me.0 in
      let y : Held P = acted.after in
      let found : acted.before ≡ t.held = slot_same i t.held acted.before me.1 turn.slot acted.found_is in
      let did : IsActed touch value made r e t.held y = subst (λ (h : Held P). IsActed touch value made r e h y) found acted.acted in
      let did' : IsActed touch value made v.round.number e t.held y = subst (λ (k : ℕ). IsActed touch value made k e t.held y) (sym round) did in
      let stamp : e.stamp ≡ 1 + max clock e.before = acted.entry.stamp_is in
      let twice : new ≡ 2 * t.index + 2 = omega (arith, is, turn.word) in
      let path : left ≡ (v, (i, y) ∷ []) = λ k. (view k, acted.left_is k) in
      subst (λ (m : Mine P). Allows (IsKept touch value made parts) slots id m i (λ _. new) (λ _. Releases (step slots i new 0 none) m new)) (sym path)
      (gives_turn touch value made parts slots id i new v t y e clock turn.turn turn.place did' stamp small part room lt twice)

  module _ (i n r : ℕ) (me left : Mine P) (t : Turn P) (e : Entry) (actor : ActorId) (op : Op) (clock b c : ℕ) (h : HasTurn made i n t me) (acted : Acted touch value made r e actor op clock i me.1 left.1 b c) where
    found : acted.before ≡ t.held
    found = slot_same i t.held acted.before me.1 h.slot acted.found_is

    was_made : IsMadeAt made me.0 i → made acted.before.place
    was_made m = subst (λ (y : Held P). made y.place) (sym found) (h.stays m)

    pub entry_of : IsEntryOf e actor h.first.id op clock
    entry_of =
        subst (λ k. IsEntryOf e actor k op clock) (ap (λ (y : Held P). y.id) found ∙ h.id) acted.entry

    pub none_of : IsMadeAt made me.0 i → c ≡ b
    none_of m = acted.none (was_made m)

    -- the store gives the slot back, and notes the act
    given : left.0 ≡ me.0 → (after : Mine P) → after ≡ put_down left → after ≡ (wrote me.0 i e acted.after.place, [])
    given view after is =
        let path : left ≡ (me.0, (i, acted.after) ∷ []) = λ k. (view k, acted.left_is k) in
        is ∙ ap (λ (m : Mine P). put_down m) path ∙ ap (λ (d : Entry). let m : Mine P = (wrote me.0 i d acted.after.place, []) in m) acted.acted.noted

    pub noted_of : left.0 ≡ me.0 → (after : Mine P) → after ≡ put_down left → IsNoted made i e me.0 after.0 b c
    noted_of view after is = record {
      left = acted.after.place;
      view = ap (λ (m : Mine P). m.0) (given view after is);
      stays = λ m. acted.acted.stays (was_made m);
      spent = acted.spent;
    }

    pub ready_of : (table : TableId) (seat : Seat (Held P) (View P)) → left.0 ≡ me.0 → seat.me ≡ put_down left → seat.table_id ≡ table → me.0.round.number ≡ r → 0 < me.0.parts → IsReady table r seat
    ready_of table seat view is same round some = record {
      table_is = same;
      round = ap (λ (m : Mine P). m.0.round.number) (given view seat.me is) ∙ round;
      parts = subst (λ (m : Mine P). 0 < m.0.parts) (sym (given view seat.me is)) some;
      free = ap (λ (m : Mine P). m.0.turn) (given view seat.me is);
      bare = ap (λ (m : Mine P). m.1) (given view seat.me is);
    }

  -- who has the turn has a place to act on, or a blank
  pub can_feed : (i n blanks : ℕ) (me : Mine P) (t : Turn P) → HasTurn made i n t me → CanFeed made me.0 i blanks → made t.held.place ⊎ (0 < blanks)
  can_feed i n blanks me t h fed = ⊎_elim (λ f. inl (h.stays f)) (λ lt. inr lt) fed
