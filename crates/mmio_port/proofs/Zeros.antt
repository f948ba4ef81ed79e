-- Bytes with zeros behind them: how many doesn't matter where there are enough.
use Rattle.std.proofs.Common.{◌≡◌, ℕ, zero, suc, ◌+◌, ◌-◌, ◌≤◌, List, [], ◌∷◌, ◌++◌, length, replicate, take, drop, refl, sym, ap, ◌∙◌, arith}
use Rattle.std.proofs.lemmas.List.{take-replicate, drop-replicate}

front_of_zeros : (bytes : List ℕ) (len more less : ℕ) → len ≤ length bytes + more → len ≤ length bytes + less
    → take len (bytes ++ replicate more 0) ≡ take len (bytes ++ replicate less 0)
front_of_zeros [] len more less room enough =
    take-replicate len more 0 (omega (arith, room)) ∙ sym (take-replicate len less 0 (omega (arith, enough)))
front_of_zeros (b ∷ bytes) zero more less room enough = refl
front_of_zeros (b ∷ bytes) (suc len) more less room enough =
    ap (λ (rest : List ℕ). b ∷ rest) (front_of_zeros bytes len more less (omega (arith, room)) (omega (arith, enough)))

pub zeros_behind : (bytes : List ℕ) (at len more less : ℕ) → at + len ≤ length bytes + more → len ≤ less
    → take len (drop at (bytes ++ replicate more 0)) ≡ take len (drop at bytes ++ replicate less 0)
zeros_behind [] zero len more less room enough =
    take-replicate len more 0 (omega (arith, room)) ∙ sym (take-replicate len less 0 enough)
zeros_behind [] (suc at) len more less room enough =
    ap (λ (rest : List ℕ). take len rest) (drop-replicate (suc at) more 0)
    ∙ take-replicate len (more - suc at) 0 (omega (arith, room))
    ∙ sym (take-replicate len less 0 enough)
zeros_behind (b ∷ bytes) zero len more less room enough =
    front_of_zeros (b ∷ bytes) len more less (omega (arith, room)) (omega (arith, enough))
zeros_behind (b ∷ bytes) (suc at) len more less room enough =
    zeros_behind bytes at len more less (omega (arith, room)) enough

-- what is shown of a front of 16 bytes that were zeros
pub shown_front : (bytes new piece : List ℕ) (count at len : ℕ) → new ≡ bytes → length bytes ≡ count → at ≤ count → count ≤ 8 → len ≤ 8
    → piece ≡ take (at + len - at) (drop at (new ++ drop count (replicate 16 0)))
    → piece ≡ take len (drop at bytes ++ replicate len 0)
shown_front bytes new piece count at len is long inside small few shown =
    let width : at + len - at ≡ len = omega arith in
    shown
    ∙ ap (λ (n : ℕ). take n (drop at (new ++ drop count (replicate 16 0)))) width
    ∙ ap (λ (xs : List ℕ). take len (drop at (xs ++ drop count (replicate 16 0)))) is
    ∙ ap (λ (xs : List ℕ). take len (drop at (bytes ++ xs))) (drop-replicate count 16 0)
    ∙ zeros_behind bytes at len (16 - count) len (omega (arith, long, inside, small, few)) (omega arith)
