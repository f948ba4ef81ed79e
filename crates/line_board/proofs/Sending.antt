-- Software bits that are set one after another.
use Rattle.std.proofs.Common.{◌≡◌, ℕ, zero, suc, ◌+◌, ◌<◌, Bool, false, ◌||◌, List, [], ◌∷◌, ◌++◌, length, take, drop, get_or, set, refl, ap, ◌∙◌, arith}
use Rattle.board_table.specs.Calls.{is_named, sent_from}

module _ (mask base : ℕ) where
  abbrev so_far : ℕ → ℕ → List Bool → List Bool
  so_far first i bits = sent_from mask base first (take i bits) ++ drop i bits

  unchanged : (first i : ℕ) (bits : List Bool) (d : Bool) → i < length bits → get_or (so_far first i bits) i d ≡ get_or bits i d
  unchanged first i [] d lt = absurd (omega arith)
  unchanged first zero (b ∷ rest) d lt = refl
  unchanged first (suc i) (b ∷ rest) d lt = unchanged (suc first) i rest d (omega arith)

  one_more : (first i : ℕ) (bits : List Bool) (d : Bool) → i < length bits
      → set (so_far first i bits) i (get_or bits i d || is_named mask base (first + i)) ≡ so_far first (suc i) bits
  one_more first i [] d lt = absurd (omega arith)
  one_more first zero (b ∷ rest) d lt = ap (λ (n : ℕ). (b || is_named mask base n) ∷ rest) (omega arith)
  one_more first (suc i) (b ∷ rest) d lt =
      let next : first + suc i ≡ suc first + i = omega arith in
      ap (λ (n : ℕ). (b || is_named mask base first) ∷ set (so_far (suc first) i rest) i (get_or rest i d || is_named mask base n)) next
      ∙ ap (λ (l : List Bool). (b || is_named mask base first) ∷ l) (one_more (suc first) i rest d (omega arith))

  pub sent_one : (i : ℕ) (bits now : List Bool) (d new : Bool) → i < length bits → now ≡ so_far 0 i bits
      → new ≡ (get_or now i d || is_named mask base i) → set now i new ≡ so_far 0 (i + 1) bits
  sent_one i bits now d new lt is sent =
      let here : get_or now i d ≡ get_or bits i d = ap (λ (l : List Bool). get_or l i d) is ∙ unchanged 0 i bits d lt in
      let next : suc i ≡ i + 1 = omega arith in
      let from_zero : i ≡ 0 + i = omega arith in
      ap (λ (l : List Bool). set l i new) is
      ∙ ap (λ (h : Bool). set (so_far 0 i bits) i h) (sent ∙ ap (λ (h : Bool). h || is_named mask base i) here)
      ∙ ap (λ (n : ℕ). set (so_far 0 i bits) i (get_or bits i d || is_named mask base n)) from_zero
      ∙ one_more 0 i bits d lt
      ∙ ap (λ (k : ℕ). so_far 0 k bits) next
