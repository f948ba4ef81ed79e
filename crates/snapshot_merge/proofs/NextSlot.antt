-- The slot that a merge fills: the first that isn't open.
use Rattle.std.proofs.Common.{◌≡◌, ℕ, zero, suc, ◌<◌, ◌==◌, ◌&&◌, Bool, true, false, cond, List, [], ◌∷◌, length, get_or, set, Option, Some, None, refl, sym, ap, subst, ◌∙◌, arith}
use Rattle.std.specs.Prelude.{slice_get}
use Rattle.std.specs.List.{list_all}
use Rattle.std.proofs.lemmas.Bool.{and_parts}
use Rattle.vm_types.specs.declared.identity.Identity.{Identity}
use Rattle.file_format.specs.Identities.{is_numbered}
use Rattle.snap_memory.specs.declared.header.MemHeader.{MemHeader}
use Rattle.snap_memory.specs.declared.slot.Slot.{Slot}
use Rattle.snap_memory.specs.Headers.{are_slots, last_identity}
use Rattle.snap_memory.specs.Slots.{is_open, is_zero}
use Rattle.snap_diff.specs.declared.header.DiffNames.{DiffNames}
use Rattle.snapshot_merge.specs.Merges.{begun_merge, done_merge, open_slots, unfinished_merge}

-- as many as are open, by the first
open_then : (s : Slot) (others : List Slot) (b : Bool) → is_open s ≡ b → open_slots (s ∷ others) ≡ cond b (suc (open_slots others)) 0
open_then s others b is = ap (λ (c : Bool). cond c (suc (open_slots others)) 0) is

-- a slot that was set is there
pub set_there : (slots : List Slot) (j : ℕ) (t : Slot) → j < length slots → slice_get (set slots j t) j ≡ Some t
set_there [] j t lt = absurd (omega (arith, lt))
set_there (s ∷ others) zero t lt = refl
set_there (s ∷ others) (suc j) t lt = set_there others j t (omega (arith, lt))

-- it isn't open
shut_by : (s : Slot) (others : List Slot) (d : Slot) (b : Bool) → is_open s ≡ b
    → (b ≡ true → is_open (get_or others (open_slots others) d) ≡ false) → is_open (get_or (s ∷ others) (open_slots (s ∷ others)) d) ≡ false
shut_by s others d true is rest = ap (λ (n : ℕ). is_open (get_or (s ∷ others) n d)) (open_then s others true is) ∙ rest refl
shut_by s others d false is rest = ap (λ (n : ℕ). is_open (get_or (s ∷ others) n d)) (open_then s others false is) ∙ is

left_then : (s : Slot) (others : List Slot) → is_open s ≡ true → open_slots (s ∷ others) < suc (length others) → open_slots others < length others
left_then s others is left = let count = open_then s others true is in omega (arith, count, left)

pub next_is_shut : (slots : List Slot) (d : Slot) → open_slots slots < length slots → is_open (get_or slots (open_slots slots) d) ≡ false
next_is_shut [] d left = absurd (omega (arith, left))
next_is_shut (s ∷ others) d left = shut_by s others d (is_open s) refl (λ is. next_is_shut others d (left_then s others is left))

-- ---- it is given a name, and stays shut

module _ (t : Slot) (shut : is_open t ≡ false) where
  -- the slots are slots, as many are open, and the last of them is the same
  abbrev pub StaysShut : List Slot → Type 0
  StaysShut slots =
      (are_slots (set slots (open_slots slots) t) ≡ true) × (open_slots (set slots (open_slots slots) t) ≡ open_slots slots)
      × ((made_as : Identity) → last_identity made_as (set slots (open_slots slots) t) ≡ last_identity made_as slots)

  named_by : (s : Slot) (others : List Slot) (b : Bool) → is_open s ≡ b → are_slots (s ∷ others) ≡ true
      → (b ≡ true → are_slots others ≡ true → StaysShut others) → StaysShut (s ∷ others)
  named_by s others true is are rest =
      let tests = and_parts (is_numbered s.identity) (are_slots others) (subst (λ (b : Bool). cond b (is_numbered s.identity && are_slots others) (list_all is_zero others) ≡ true) is are) in
      let count = open_then s others true is in
      let named : List Slot = set others (open_slots others) t in
      let later = rest refl tests.1 in (
        ap (λ (n : ℕ). are_slots (set (s ∷ others) n t)) count
            ∙ ap (λ (b : Bool). cond b (is_numbered s.identity && are_slots named) (list_all is_zero named)) is
            ∙ ap (λ (b : Bool). b && are_slots named) tests.0
            ∙ later.0,
        ap (λ (n : ℕ). open_slots (set (s ∷ others) n t)) count ∙ open_then s named true is ∙ ap suc later.1 ∙ sym count,
        λ made_as.
            ap (λ (n : ℕ). last_identity made_as (set (s ∷ others) n t)) count
            ∙ ap (λ (b : Bool). cond b (last_identity s.identity named) made_as) is
            ∙ later.2 s.identity
            ∙ sym (ap (λ (b : Bool). cond b (last_identity s.identity others) made_as) is),
      )
  named_by s others false is are rest =
      let zeros : list_all is_zero others ≡ true = subst (λ (b : Bool). cond b (is_numbered s.identity && are_slots others) (list_all is_zero others) ≡ true) is are in
      let count = open_then s others false is in (
        ap (λ (n : ℕ). are_slots (set (s ∷ others) n t)) count
            ∙ ap (λ (b : Bool). cond b (is_numbered t.identity && are_slots others) (list_all is_zero others)) shut ∙ zeros,
        ap (λ (n : ℕ). open_slots (set (s ∷ others) n t)) count ∙ open_then t others false shut ∙ sym count,
        λ made_as.
            ap (λ (n : ℕ). last_identity made_as (set (s ∷ others) n t)) count
            ∙ ap (λ (b : Bool). cond b (last_identity t.identity others) made_as) shut
            ∙ sym (ap (λ (b : Bool). cond b (last_identity s.identity others) made_as) is),
      )

  pub named_next : (slots : List Slot) → are_slots slots ≡ true → StaysShut slots
  named_next [] are = (refl, refl, λ made_as. refl)
  named_next (s ∷ others) are = named_by s others (is_open s) refl are (λ is rest. named_next others rest)

-- ---- it is filled: behind it stands no merge that was begun

abbrev pub IsFree : Option Slot → Type 0
IsFree None = Unit {0}
IsFree (Some s) = (s.identity.number == 0) ≡ true

free_of_zeros : (others : List Slot) → list_all is_zero others ≡ true → IsFree (slice_get others 0)
free_of_zeros [] zeros = tt
free_of_zeros (s ∷ others) zeros =
    let tests = and_parts (is_zero s) (list_all is_zero others) zeros in
    (and_parts (s.identity.lineage == 0) (s.identity.number == 0) (and_parts ((s.identity.lineage == 0) && (s.identity.number == 0)) (s.gate == 0) tests.0).0).1

behind_by : (t s : Slot) (others : List Slot) (b : Bool) → is_open s ≡ b → are_slots (s ∷ others) ≡ true
    → (are_slots others ≡ true → IsFree (slice_get (set others (open_slots others) t) (suc (open_slots others))))
    → IsFree (slice_get (set (s ∷ others) (open_slots (s ∷ others)) t) (suc (open_slots (s ∷ others))))
behind_by t s others true is are rest =
    let tests = and_parts (is_numbered s.identity) (are_slots others) (subst (λ (b : Bool). cond b (is_numbered s.identity && are_slots others) (list_all is_zero others) ≡ true) is are) in
    subst (λ (n : ℕ). IsFree (slice_get (set (s ∷ others) n t) (suc n))) (sym (open_then s others true is)) (rest tests.1)
behind_by t s others false is are rest =
    let zeros : list_all is_zero others ≡ true = subst (λ (b : Bool). cond b (is_numbered s.identity && are_slots others) (list_all is_zero others) ≡ true) is are in
    subst (λ (n : ℕ). IsFree (slice_get (set (s ∷ others) n t) (suc n))) (sym (open_then s others false is)) (free_of_zeros others zeros)

pub free_behind : (t : Slot) (slots : List Slot) → are_slots slots ≡ true → IsFree (slice_get (set slots (open_slots slots) t) (suc (open_slots slots)))
free_behind t [] are = tt
free_behind t (s ∷ others) are = behind_by t s others (is_open s) refl are (λ rest. free_behind t others rest)

pub free_is_done : (base : MemHeader) (diff : DiffNames) (o : Option Slot) → IsFree o → unfinished_merge base diff o ≡ done_merge base diff
free_is_done base diff None free = refl
free_is_done base diff (Some s) free = ap (λ (b : Bool). cond b (done_merge base diff) (begun_merge base diff s)) free
