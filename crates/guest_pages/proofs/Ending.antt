-- Where no hart has reserved anything, a write ends nothing; and what becomes of granules inside a page.
use Rattle.std.proofs.Common.{◌≡◌, ℕ, zero, suc, ◌-◌, ◌*◌, ◌%◌, Bool, true, false, cond, ◌&&◌, not, List, [], ◌∷◌, Option, Some, None, is_some, length, replicate, set, zero-add, arith, refl, ap, ◌∙◌}
use Rattle.std.specs.List.{count_by}
use Rattle.std.proofs.lemmas.List.Sums.{sum_by-cons}
use Rattle.vm_types.specs.declared.ids.ActorId.{ActorId}
use Rattle.vm_types.specs.declared.ids.ActorId.TheVariants.{Hart}
use Rattle.vm_types.specs.Ids.{same_actor}
use Rattle.guest_memory.specs.Reserved.{hart_limit, reaches, granule_start, slots_after}
use Rattle.guest_memory.specs.Memory.{put_at}
use Rattle.guest_pages.specs.Flat.{AreInside}
use Rattle.guest_pages.specs.Pages.{page_start, page_written}
use Rattle.guest_pages.specs.declared.page.Held.{Held}

pub nothing_ends : (writer : ActorId) (at len slot : ℕ) (slots : List (Option ℕ)) → 0 ≡ count_by is_some slots → slots ≡ slots_after writer at len slot slots
nothing_ends writer at len slot [] none = refl
nothing_ends writer at len slot (None ∷ rest) none =
    ap (λ (l : List (Option ℕ)). None ∷ l) (nothing_ends writer at len (suc slot) rest (none ∙ sum_by-cons {X = Option ℕ} (λ x. cond (is_some x) 1 0) None rest ∙ zero-add (count_by is_some rest)))
nothing_ends writer at len slot (Some offset ∷ rest) none =
    let more = none ∙ sum_by-cons {X = Option ℕ} (λ x. cond (is_some x) 1 0) (Some offset) rest in absurd (omega (arith, more))

-- so each of them holds nothing
none_by : (slots : List (Option ℕ)) → 0 ≡ count_by is_some slots → slots ≡ replicate (length slots) None
none_by [] none = refl
none_by (None ∷ rest) none =
    ap (λ (l : List (Option ℕ)). None ∷ l) (none_by rest (none ∙ sum_by-cons {X = Option ℕ} (λ x. cond (is_some x) 1 0) None rest ∙ zero-add (count_by is_some rest)))
none_by (Some offset ∷ rest) none =
    let more = none ∙ sum_by-cons {X = Option ℕ} (λ x. cond (is_some x) 1 0) (Some offset) rest in absurd (omega (arith, more))

pub none_held : (slots : List (Option ℕ)) → length slots ≡ 32 → 0 ≡ count_by is_some slots → slots ≡ replicate 32 None
none_held slots long none = none_by slots none ∙ ap (λ (n : ℕ). replicate n None) long

pub inside_after : (writer : ActorId) (at len slot : ℕ) (slots : List (Option ℕ)) → AreInside slots → AreInside (slots_after writer at len slot slots)
inside_after writer at len slot [] are = tt
inside_after writer at len slot (None ∷ rest) are = inside_after writer at len (suc slot) rest are
inside_after writer at len slot (Some offset ∷ rest) are =
    by_test (reaches at len (granule_start slot offset) && not (same_actor (Hart (slot % hart_limit)) writer)) (slots_after writer at len (suc slot) rest) (inside_after writer at len (suc slot) rest are.1)
  where
    by_test : (b : Bool) (more : List (Option ℕ)) → AreInside more → AreInside (cond b None (Some offset) ∷ more)
    by_test true more inside = inside
    by_test false more inside = (are.0, inside)

rest_inside : (held : Option ℕ) (rest : List (Option ℕ)) → AreInside (held ∷ rest) → AreInside rest
rest_inside None rest are = are
rest_inside (Some offset) rest are = are.1

first_inside : (held : Option ℕ) (rest : List (Option ℕ)) → AreInside (held ∷ rest) → AreInside (held ∷ [])
first_inside None rest are = tt
first_inside (Some offset) rest are = (are.0, tt)

both_inside : (held : Option ℕ) (rest : List (Option ℕ)) → AreInside (held ∷ []) → AreInside rest → AreInside (held ∷ rest)
both_inside None rest first are = are
both_inside (Some offset) rest first are = (first.0, are)

pub inside_set : (slots : List (Option ℕ)) (k : ℕ) (held : Option ℕ) → AreInside (held ∷ []) → AreInside slots → AreInside (set slots k held)
inside_set [] k held fits are = tt
inside_set (old ∷ rest) zero held fits are = both_inside held rest fits (rest_inside old rest are)
inside_set (old ∷ rest) (suc k) held fits are = both_inside old (set rest k held) (first_inside old rest are) (inside_set rest k held fits (rest_inside old rest are))

-- a write into a page that is marked, in which nothing is reserved, changes bytes alone
pub only_bytes : (h : Held) (writer : ActorId) (at offset : ℕ) (piece now : List ℕ) → h.marked ≡ true → 0 ≡ count_by is_some h.reserved
    → offset ≡ at - page_start h.number → now ≡ put_at h.bytes offset piece
    → record { number = h.number; bytes = now; reserved = h.reserved; marked = h.marked; made = true }
    ≡ page_written (record { number = h.number; bytes = h.bytes; reserved = h.reserved; marked = h.marked; made = true }) writer at piece
only_bytes h writer at offset piece now marked none start is =
    ap (λ (l : List ℕ). record { number = h.number; bytes = l; reserved = h.reserved; marked = h.marked; made = true })
    (is ∙ ap (λ (k : ℕ). put_at h.bytes k piece) start)
    ∙ ap (λ (b : Bool). record { number = h.number; bytes = put_at h.bytes (at - page_start h.number) piece; reserved = h.reserved; marked = b; made = true }) marked
    ∙ ap (λ (slots : List (Option ℕ)). record { number = h.number; bytes = put_at h.bytes (at - page_start h.number) piece; reserved = slots; marked = true; made = true })
    (nothing_ends writer at (length piece) (32 * h.number) h.reserved none)
