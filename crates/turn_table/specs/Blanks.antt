-- Places that are made, and the blanks from which they are.
use Rattle.std.specs.Prelude.{ℕ, ◌≡◌, ◌+◌, ◌<◌, ◌≤◌, ◌⊎◌, Contains}
use mathlib.Core.Option.{some}
use lib.ListN.{get_elem?}
use Rattle.turn_table.specs.declared.held.Held.{Held}
use Rattle.turn_table.specs.declared.view.View.{View}
use Rattle.turn_table.specs.declared.view.Noted.{Noted}
use Rattle.vm_types.specs.declared.entry.Entry.{Entry}
use Rattle.turn_table.specs.Views.{wrote}

-- of so many blanks one at most is gone
abbrev pub IsOneAtMost : ℕ → ℕ → Type 0
IsOneAtMost old new = (new ≤ old) × (old ≤ new + 1)

-- the place at this index was made when the round began
abbrev pub WasMadeAt : {P : Type 0} → (P → Type 0) → View P → ℕ → Type 0
WasMadeAt {P} made v i = (first : Held P) × (get_elem? v.round.opens i ≡ some first) × made first.place

-- an act from this seat left it made
abbrev pub IsLeftMadeAt : {P : Type 0} → (P → Type 0) → View P → ℕ → Type 0
IsLeftMadeAt {P} made v i = (x : Noted P) × Contains v.entries x × (x.place ≡ i) × made x.left

-- so the seat knows that it is made
abbrev pub IsMadeAt : {P : Type 0} → (P → Type 0) → View P → ℕ → Type 0
IsMadeAt made v i = WasMadeAt made v i ⊎ IsLeftMadeAt made v i

-- so it is, or there is a blank
abbrev pub CanFeed : {P : Type 0} → (P → Type 0) → View P → ℕ → ℕ → Type 0
CanFeed made v i blanks = IsMadeAt made v i ⊎ (0 < blanks)

-- the act is noted with how it left the place: made, if the seat knew it so or if a blank is gone
pub record IsNoted {P : Type 0} (made : P → Type 0) (i : ℕ) (e : Entry) (before after : View P) (had has : ℕ) : Type 0 where
  pub left : P
  pub view : after ≡ wrote before i e left
  pub stays : IsMadeAt made before i → made left
  pub spent : has < had → made left
