-- The journals of a round of turns, and what the seat with all parts is told of it.
use Rattle.std.specs.Prelude.{ℕ, ◌≡◌, ◌<◌, ◌≤◌, not, List, map, length, ◌==◌}
use Rattle.std.specs.List.{AllByRecursion, filter}
use Rattle.std.specs.List.Sorted.{IsPermutation}
use mathlib.Core.Option.{some}
use lib.ListN.{get_elem?}
use Rattle.vm_types.specs.declared.ids.ActorId.{ActorId}
use Rattle.vm_types.specs.declared.ids.PlaceId.{PlaceId}
use Rattle.vm_types.specs.declared.op.Op.{Op}
use Rattle.vm_types.specs.declared.reply.Reply.{Reply}
use Rattle.vm_types.specs.declared.entry.Entry.{Entry}
use Rattle.vm_types.specs.Ids.{is_out, same_place}
use Rattle.vm_types.specs.Serial.{OutFits}
use Rattle.stamp_merge.specs.Journals.{all_of}
use Rattle.stamp_merge.specs.Legal.{AreFollowed, IsRun}
use Rattle.stamp_merge.specs.Order.{IsOrder}
use Rattle.stamp_merge.specs.Stamps.{AreStamped, StampsRun}
use Rattle.turn_table.specs.declared.held.Held.{Held}
use Rattle.turn_table.specs.declared.view.View.{View}
use Rattle.turn_table.specs.declared.view.Noted.{Noted}
use Rattle.turn_table.specs.Steps.{Told}

abbrev pub entry_of : {P : Type 0} → Noted P → Entry
entry_of x = x.entry

-- the entries that have a place
abbrev pub placed : List Entry → List Entry
placed es = filter (λ e. not (is_out e.place)) es

-- each entry is noted at the index of its place
abbrev pub AreIndexed : {P : Type 0} → (PlaceId → ℕ) → List (Noted P) → Type 0
AreIndexed {P} index xs = AllByRecursion (λ (x : Noted P). x.place ≡ index x.entry.place) xs

-- no two places have one index below n
abbrev pub IsIndex : (PlaceId → ℕ) → ℕ → Type 0
IsIndex index n = (p q : PlaceId) → index p < n → (index p == index q) ≡ same_place p q

-- these values are those of the places at their indices; a place with no index there is as it was
pub record AreValues {P V : Type 0} (value : P → V) (index : PlaceId → ℕ) (opens now : List (Held P)) (opening ends : PlaceId → V) : Type 0 where
  pub first : (p : PlaceId) (h : Held P) → get_elem? opens (index p) ≡ some h → opening p ≡ value h.place
  pub last : (p : PlaceId) (h : Held P) → get_elem? now (index p) ≡ some h → ends p ≡ value h.place
  pub none : (p : PlaceId) → length opens ≤ index p → opening p ≡ ends p

-- the seat with all parts has these journals' entries, each once, in any order, each at the index of its place
pub record AreNoted {P : Type 0} (index : PlaceId → ℕ) (journals : List (ActorId × List Entry)) (v : View P) : Type 0 where
  pub indexed : AreIndexed index v.entries
  pub inside : AllByRecursion (λ (x : Noted P). x.place < length v.round.opens) v.entries
  pub same : IsPermutation (map entry_of v.entries) (placed (all_of journals))

-- what it is told, with journals that follow their actors' wants, is a run in the order of the stamps
abbrev pub ToldIsRun : {P V S : Type 0} → (V → ActorId → Op → Reply × V) → (P → V) → (P → Type 0) → (S → Op) → (S → Reply → S) → Type 0
ToldIsRun {P} {V} {S} touch value made want next =
    (route : Op → PlaceId) (index : PlaceId → ℕ) (opening ends : PlaceId → V) (start lasts : ActorId → S)
    (journals : List (ActorId × List Entry)) (v : View P) (now : List (Held P)) (es : List Entry)
    → AreFollowed want next route OutFits start lasts journals
    → IsIndex index (length v.round.opens)
    → AreNoted index journals v
    → AreValues value index v.round.opens now opening ends
    → Told touch value made v now
    → IsOrder (all_of journals) es
    → IsRun touch want next route OutFits opening ends start lasts es

-- in that order, each stamp of stamped journals is one more than the larger of its actor's and its place's last
abbrev pub ToldIsStamped : {P V : Type 0} → (V → ActorId → Op → Reply × V) → (P → V) → (P → Type 0) → Type 0
ToldIsStamped {P} {V} touch value made =
    (index : PlaceId → ℕ) (journals : List (ActorId × List Entry)) (v : View P) (now : List (Held P)) (es : List Entry)
    → AreStamped journals
    → IsIndex index (length v.round.opens)
    → AreNoted index journals v
    → Told touch value made v now
    → IsOrder (all_of journals) es
    → StampsRun (λ actor. 0) (λ place. 0) es
