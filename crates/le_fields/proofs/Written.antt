-- What a write of a field leaves.
use Rattle.std.proofs.Common.{◌≡◌, ℕ, ◌+◌, ◌*◌, ◌/◌, ◌%◌, ◌^◌, ◌<◌, ◌≤◌, List, [], ◌∷◌, ◌++◌, length, take, drop, slice_set, refl, sym, ap, ◌∙◌, arith, zero, suc, zero-add, suc-add, append_assoc, length-append, length-take-le}
use Rattle.std.proofs.Math.Nat.{pow-suc}
use Rattle.std.proofs.Math.Seq.{take-append_seam, drop-append-add}
use Rattle.std.proofs.lemmas.List.{drop-drop}
use Rattle.le_fields.specs.Fields.{bytes_of}
use Rattle.le_fields.proofs.Halves.{powered}

-- the bytes of a value are those of its low part, and behind them those of the part above
pub bytes_of-join : (low_width high_width low high : ℕ) → low < 256 ^ low_width →
    bytes_of (low_width + high_width) (low + 256 ^ low_width * high) ≡ bytes_of low_width low ++ bytes_of high_width high
bytes_of-join zero v low high small =
    let none : low ≡ 0 = omega arith in
    let same : low + 1 * high ≡ high = omega arith in
    rw zero-add (ap (bytes_of v) same)
bytes_of-join (suc w) v low high small =
    let p = pow-suc 256 w in
    let weigh = powered (256 ^ w) high in
    let whole : low + 256 ^ suc w * high ≡ low + 256 * (256 ^ w * high) = omega (arith, ap (λ n. n * high) p) in
    let first : (low + 256 * (256 ^ w * high)) % 256 ≡ low % 256 = omega arith in
    let rest : (low + 256 * (256 ^ w * high)) / 256 ≡ low / 256 + 256 ^ w * high = omega arith in
    let below : low / 256 < 256 ^ w = omega arith in
    rw (suc-add w v) (
    ap (bytes_of (suc (w + v))) whole
    ∙ ap (λ n. n ∷ bytes_of (w + v) ((low + 256 * (256 ^ w * high)) / 256)) first
    ∙ ap (λ n. low % 256 ∷ bytes_of (w + v) n) rest
    ∙ ap (λ bytes. low % 256 ∷ bytes) (bytes_of-join w v (low / 256) high below))

-- two bytes written one behind the other
pub two_written : (xs : List ℕ) (at low high : ℕ) → at + 2 ≤ length xs →
    slice_set (slice_set xs at low) (suc at) high ≡ take at xs ++ (low ∷ high ∷ []) ++ drop (at + 2) xs
two_written [] at low high room = absurd (omega arith)
two_written (x ∷ []) zero low high room = absurd (omega arith)
two_written (x ∷ y ∷ ys) zero low high room = refl
two_written (x ∷ xs) (suc at) low high room = rw (suc-add at 2) (ap (λ ys. x ∷ ys) (two_written xs at low high (omega arith)))

-- two pieces written one behind the other
pub written_twice : (xs first second : List ℕ) (at width more : ℕ) → at ≤ length xs → length first ≡ width →
    take (at + width) (take at xs ++ first ++ drop (at + width) xs)
    ++ second
    ++ drop (at + width + more) (take at xs ++ first ++ drop (at + width) xs)
    ≡ take at xs ++ (first ++ second) ++ drop (at + width + more) xs
written_twice xs first second at width more room is =
    let front = take at xs ++ first in
    let long : length front ≡ at + width = length-append (take at xs) first ∙ omega (arith, length-take-le at xs room) in
    let behind = drop (at + width) xs in
    let before : take (at + width) (front ++ behind) ≡ front = ap (λ n. take n (front ++ behind)) (sym long) ∙ take-append_seam front behind in
    let after : drop (at + width + more) (front ++ behind) ≡ drop (at + width + more) xs =
    ap (λ n. drop (n + more) (front ++ behind)) (sym long) ∙ drop-append-add front behind more ∙ drop-drop more (at + width) xs in
    ap (λ ys. ys ++ second ++ drop (at + width + more) (front ++ behind)) before
    ∙ ap (λ ys. front ++ second ++ ys) after
    ∙ ap (λ ys. ys ++ drop (at + width + more) xs) (append_assoc (take at xs) first second)
