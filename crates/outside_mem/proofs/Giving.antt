-- Some bytes are given, and stand at the front of a buffer.
use Rattle.std.proofs.Common.{◌≡◌, ℕ, ◌+◌, ◌≤◌, List, ◌++◌, length, take, drop, sym, ◌∙◌, ap, take-append-drop}
use Rattle.std.proofs.lemmas.List.{take_at, drop-drop, length-take-le}
use Rattle.vm_outside.proofs.Takes.{take_both}

given_piece : (bs rest piece buf : List ℕ) (at n : ℕ) → rest ≡ drop at bs → piece ≡ take n rest → n ≤ length rest
    → take n (piece ++ drop n buf) ≡ take n (drop at bs)
given_piece bs rest piece buf at n left is within =
    take_at piece (drop n buf) n (ap length is ∙ length-take-le n rest within) ∙ is ∙ ap (λ (l : List ℕ). take n l) left

pub given : (bs rest piece buf : List ℕ) (at n : ℕ) → rest ≡ drop at bs → piece ≡ take n rest → n ≤ length rest
    → (take (at + n) bs ≡ take at bs ++ take n (piece ++ drop n buf)) × (drop at bs ≡ take n (piece ++ drop n buf) ++ drop (at + n) bs)
given bs rest piece buf at n left is within =
    let came : take n (piece ++ drop n buf) ≡ take n (drop at bs) = given_piece bs rest piece buf at n left is within in (
      take_both at n bs ∙ ap (λ (l : List ℕ). take at bs ++ l) (sym came),
      sym (take-append-drop n (drop at bs)) ∙ ap (λ (l : List ℕ). take n (drop at bs) ++ l) (drop-drop n at bs)
          ∙ ap (λ (l : List ℕ). l ++ drop (at + n) bs) (sym came),
    )
