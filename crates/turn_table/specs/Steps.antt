-- What each step tells its seat.
use Rattle.std.specs.Prelude.{ℕ, ◌≡◌, ◌+◌, ◌*◌, ◌^◌, ◌<◌, ◌≤◌, ◌==◌, List, [], ◌∷◌, length, Some, None, MatchBool}
use Rattle.std.specs.List.Sorted.{IsPermutation}
use mathlib.Core.Option.{some}
use lib.ListN.{get_elem?}
use Rattle.atomic_table.specs.Table.{Me, Step}
use Rattle.atomic_table.specs.Seated.{TableId}
use Rattle.atomic_table.specs.declared.shared.Seat.{Seat}
use Rattle.vm_types.specs.declared.ids.ActorId.{ActorId}
use Rattle.vm_types.specs.declared.op.Op.{Op}
use Rattle.vm_types.specs.declared.reply.Reply.{Reply}
use Rattle.vm_types.specs.declared.entry.Entry.{Entry}
use Rattle.turn_table.specs.declared.held.Held.{Held}
use Rattle.turn_table.specs.declared.view.View.{View}
use Rattle.turn_table.specs.declared.view.Turn.{Turn}
use Rattle.turn_table.specs.Views.{wrote, newcomer, entries_at}
use Rattle.place_locks.specs.Held.{IsEntryOf}
use Rattle.turn_table.specs.Acts.{IsActed}
use Rattle.turn_table.specs.Rule.{before_of, Leads}
use Rattle.turn_table.specs.Blanks.{IsMadeAt}

abbrev pub Mine : Type 0 → Type 0
Mine P = Me (Held P) (View P)

abbrev pub with_turn : {P : Type 0} → View P → Turn P → View P
with_turn v t = record v { turn = Some t }

-- the seat has the turn at the place i, whose word was n, and the slot
pub record IsTaken {P : Type 0} (made : P → Type 0) (i n : ℕ) (before after : Mine P) : Type 0 where
  pub turn : Turn P
  pub view : after.0 ≡ with_turn before.0 turn
  pub slot : after.1 ≡ (i, turn.held) ∷ before.1
  pub place : turn.place ≡ i
  pub word : n ≡ 2 * turn.index
  pub low : before_of before.0.round.number turn.held ≤ 2 ^ 63 + 2 ^ 48
  pub first : Held P
  pub opened : get_elem? before.0.round.opens i ≡ some first
  pub id : turn.held.id ≡ first.id
  pub stays : IsMadeAt made before.0 i → made turn.held.place

-- it has the turn where the word was the one expected; else nothing changed
abbrev pub Takes : {P : Type 0} → (P → Type 0) → Step (Held P) → Mine P → ℕ → Mine P → Type 0
Takes made s before found after = MatchBool (found == s.first) (IsTaken made s.word found before after) (after ≡ before)

-- what the seat took last goes back, and what was done to it is noted
abbrev pub put_down : {P : Type 0} → Mine P → Mine P
put_down (v, []) = (v, [])
put_down (v, x ∷ xs) = (wrote v x.0 x.1.noted.value x.1.place, xs)

abbrev pub Releases : {P : Type 0} → Step (Held P) → Mine P → ℕ → Mine P → Type 0
Releases s before found after = after ≡ put_down before

-- what happened to each place in the round is what the seat noted of it, in some order; and what it knows to be made is
abbrev pub Told : {P V : Type 0} → (V → ActorId → Op → Reply × V) → (P → V) → (P → Type 0) → View P → List (Held P) → Type 0
Told {P} {V} touch value made v now =
    (i : ℕ) → i < length v.round.opens
    → (first : Held P) × (last : Held P) × (es : List Entry) × (get_elem? v.round.opens i ≡ some first)
    × (get_elem? now i ≡ some last) × IsPermutation (entries_at i v.entries) es × Leads touch value made v.round.number first es last
    × (IsMadeAt made v i → made last.place)

-- the round is over, and the next one begins with the places as they stand
pub record Settles {P V : Type 0} (touch : V → ActorId → Op → Reply × V) (value : P → V) (made : P → Type 0) (before after : Mine P) : Type 0 where
  pub opens : List (Held P)
  pub same : length opens ≡ length before.0.round.opens
  pub told : Told touch value made before.0 opens
  pub view : after.0 ≡ newcomer before.0.parts (record { number = before.0.round.number + 1; opens = opens })
  pub slots : after.1 ≡ before.1

-- in the one slot that the seat has, its place was acted on, with so many blanks before and after
pub record Acted {P V : Type 0} (touch : V → ActorId → Op → Reply × V) (value : P → V) (made : P → Type 0) (n : ℕ) (e : Entry)
    (actor : ActorId) (op : Op) (clock i : ℕ) (found left : List (ℕ × Held P)) (had has : ℕ) : Type 0 where
  pub before : Held P
  pub after : Held P
  pub found_is : found ≡ (i, before) ∷ []
  pub left_is : left ≡ (i, after) ∷ []
  pub entry : IsEntryOf e actor before.id op clock
  pub acted : IsActed touch value made n e before after
  pub none : made before.place → has ≡ had
  pub spent : has < had → made after.place

-- the seat has the turn t at the place i, whose word was n, and the slot
pub record HasTurn {P : Type 0} (made : P → Type 0) (i n : ℕ) (t : Turn P) (me : Mine P) : Type 0 where
  pub turn : me.0.turn ≡ Some t
  pub place : t.place ≡ i
  pub word : n ≡ 2 * t.index
  pub slot : me.1 ≡ (i, t.held) ∷ []
  pub low : before_of me.0.round.number t.held ≤ 2 ^ 63 + 2 ^ 48
  pub first : Held P
  pub opened : get_elem? me.0.round.opens i ≡ some first
  pub id : t.held.id ≡ first.id
  pub stays : IsMadeAt made me.0 i → made t.held.place

-- the seat is of this table and round, has parts, and no turn and no slot
pub record IsReady {P : Type 0} (table : TableId) (n : ℕ) (seat : Seat (Held P) (View P)) : Type 0 where
  pub table_is : seat.table_id ≡ table
  pub round : seat.me.0.round.number ≡ n
  pub parts : 0 < seat.me.0.parts
  pub free : seat.me.0.turn ≡ None
  pub bare : seat.me.1 ≡ []
