-- A read of some bytes, and what it leaves.
use Rattle.std.proofs.Common.{◌≡◌, ℕ, ◌+◌, List, [], ◌++◌, length, take, drop, sym, ◌∙◌, ap, arith, length-drop, length-append, take-append-drop, ◌-◌, ◌≤◌, ◌<◌, min, max}
use Rattle.std.proofs.lemmas.List.{take_at, drop_all, drop-drop, length-take-le}
use Rattle.vm_outside.proofs.Takes.{tail_slice}

-- a read of n bytes into the front of a buffer
pub read_piece : (bs held piece buf : List ℕ) (at n most inner outer : ℕ) → at ≤ length bs → held ≡ bs → piece ≡ take n (take (length held - at) (drop at held))
    → n ≡ min inner outer → inner ≡ min (length (take (length held - at) (drop at held))) (length buf) → outer ≡ max most 1
    → (drop at bs ≡ take n (piece ++ drop n buf) ++ drop (at + n) bs) × (n ≡ 0 → 0 < length (piece ++ drop n buf) → drop (at + n) bs ≡ [])
read_piece bs held piece buf at n most inner outer in_range same is count within some =
    let tail : take (length held - at) (drop at held) ≡ drop at bs = tail_slice at held ∙ ap (λ (l : List ℕ). drop at l) same in
    let size : length (take (length held - at) (drop at held)) ≡ length bs - at = omega (arith, ap length tail, length-drop at bs) in
    let front : piece ≡ take n (drop at bs) = is ∙ ap (λ (l : List ℕ). take n l) tail in
    let long : length piece ≡ n = ap length front ∙ length-take-le n (drop at bs) (omega (arith, count, within, size, length-drop at bs)) in
    let whole : drop at bs ≡ piece ++ drop (at + n) bs =
    sym (take-append-drop n (drop at bs)) ∙ ap (λ (l : List ℕ). l ++ drop n (drop at bs)) (sym front) ∙ ap (λ (l : List ℕ). piece ++ l) (drop-drop n at bs) in (
      whole ∙ ap (λ (l : List ℕ). l ++ drop (at + n) bs) (sym (take_at piece (drop n buf) n long)),
      λ none room. drop_all (at + n) bs (omega (arith, size, count, within, some, none, room, long, length-append piece (drop n buf), length-drop n buf)),
    )
