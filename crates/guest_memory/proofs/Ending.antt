-- Slots that a write has gone over, one after another.
use Rattle.std.proofs.Common.{◌≡◌, ℕ, zero, suc, ◌+◌, ◌<◌, List, [], ◌∷◌, ◌++◌, Option, length, take, drop, get_or, set, refl, ap, ◌∙◌, arith}
use Rattle.vm_types.specs.declared.ids.ActorId.{ActorId}
use Rattle.guest_memory.specs.Reserved.{slot_after, slots_after}

pub length-slots_after : (writer : ActorId) (at len slot : ℕ) (slots : List (Option ℕ)) → length (slots_after writer at len slot slots) ≡ length slots
length-slots_after writer at len slot [] = refl
length-slots_after writer at len slot (held ∷ rest) = ap suc (length-slots_after writer at len (suc slot) rest)

module _ (writer : ActorId) (at len : ℕ) where
  abbrev so_far : ℕ → ℕ → List (Option ℕ) → List (Option ℕ)
  so_far slot i slots = slots_after writer at len slot (take i slots) ++ drop i slots

  unchanged : (slot i : ℕ) (slots : List (Option ℕ)) (d : Option ℕ) → i < length slots → get_or (so_far slot i slots) i d ≡ get_or slots i d
  unchanged slot i [] d lt = absurd (omega arith)
  unchanged slot zero (held ∷ rest) d lt = refl
  unchanged slot (suc i) (held ∷ rest) d lt = unchanged (suc slot) i rest d (omega arith)

  one_more : (slot i : ℕ) (slots : List (Option ℕ)) (d : Option ℕ) → i < length slots
      → set (so_far slot i slots) i (slot_after writer at len (slot + i) (get_or slots i d)) ≡ so_far slot (suc i) slots
  one_more slot i [] d lt = absurd (omega arith)
  one_more slot zero (held ∷ rest) d lt = ap (λ (n : ℕ). slot_after writer at len n held ∷ rest) (omega arith)
  one_more slot (suc i) (held ∷ rest) d lt =
      let next : slot + suc i ≡ suc slot + i = omega arith in
      ap (λ (n : ℕ). slot_after writer at len slot held ∷ set (so_far (suc slot) i rest) i (slot_after writer at len n (get_or rest i d))) next
      ∙ ap (λ (l : List (Option ℕ)). slot_after writer at len slot held ∷ l) (one_more (suc slot) i rest d (omega arith))

  pub slot_done : (slot i : ℕ) (slots now : List (Option ℕ)) (d new : Option ℕ) → i < length slots → now ≡ so_far slot i slots
      → new ≡ slot_after writer at len (slot + i) (get_or now i d) → set now i new ≡ so_far slot (i + 1) slots
  slot_done slot i slots now d new lt is ended =
      let here : get_or now i d ≡ get_or slots i d = ap (λ (l : List (Option ℕ)). get_or l i d) is ∙ unchanged slot i slots d lt in
      let next : suc i ≡ i + 1 = omega arith in
      ap (λ (l : List (Option ℕ)). set l i new) is
      ∙ ap (λ (h : Option ℕ). set (so_far slot i slots) i h) (ended ∙ ap (slot_after writer at len (slot + i)) here)
      ∙ one_more slot i slots d lt
      ∙ ap (λ (k : ℕ). so_far slot k slots) next
