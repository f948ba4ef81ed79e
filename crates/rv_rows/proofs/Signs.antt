-- A sign extended by two shifts: to the top of a number of 64 bits, and back with the sign.
use Rattle.std.proofs.Common.{◌≡◌, ℕ, suc, ◌+◌, ◌-◌, ◌*◌, ◌%◌, ◌^◌, ◌<◌, ◌≤◌, nat_lt, Bool, true, false, if◌then◌else◌, refl, sym, ap, ◌∙◌, arith}
use Rattle.std.proofs.lemmas.Bool.{ltb-false, ltb-true}
use Rattle.std.proofs.lemmas.Int.{to_z_pos}
use Rattle.std.proofs.lemmas.Nat.{pow-add, pow_below, pow_pos, row_fits, shl-shr, shr_high}
use Rattle.std.proofs.Math.Nat.{add-mul}
use Rattle.std.specs.Int.{cast_signed, cast_unsigned, int_shr, w64}
use Rattle.std.specs.Prelude.{ℤ, negsuc}
use Rattle.rv_rows.specs.Numbers.{sign_extended}

-- what a shift up and back makes of a number
abbrev pub shifted_back : ℕ → ℕ → ℕ
shifted_back n k = cast_unsigned w64 (int_shr (cast_signed w64 ((n * 2 ^ k) % 2 ^ 64)) k)

whole : (a : ℕ) → a < 2 ^ 64 → a % 2 ^ 64 ≡ a
whole a below = omega (arith, below)

-- half is 2 ^ (width - 1), and m is 2 ^ k
low : (n k half : ℕ) → half * 2 ^ k ≡ 2 ^ 63 → n < half → shifted_back n k ≡ n
low n k half size less =
    let fits = row_fits n (2 ^ k) half (2 ^ k) less (omega arith) in
    let below : n * 2 ^ k < 2 ^ 63 = omega (arith, fits, size, pow_pos k) in
    ap (λ (a : ℕ). cast_unsigned w64 (int_shr (cast_signed w64 a) k)) (whole (n * 2 ^ k) (omega (arith, below)))
    ∙ ap (λ (z : ℤ). cast_unsigned w64 (int_shr z k)) (to_z_pos w64 (n * 2 ^ k) below)
    ∙ shl-shr n k

signed_high : (a : ℕ) → 2 ^ 63 ≤ a → a < 2 ^ 64 → cast_signed w64 a ≡ negsuc (2 ^ 64 - suc a)
signed_high a high below = grind (arith, high, below)

-- n and rest + 1 make up 2 * half
high : (n k half rest : ℕ) → half * 2 ^ k ≡ 2 ^ 63 → half ≤ n → n + suc rest ≡ half + half
    → shifted_back n k ≡ 2 ^ 64 - suc rest
high n k half rest size more sum =
    let parts = add-mul n (suc rest) (2 ^ k) in
    let rests = add-mul rest 1 (2 ^ k) in
    let halves = add-mul half half (2 ^ k) in
    let same = ap (λ (a : ℕ). a * 2 ^ k) sum in
    let least = row_fits half (2 ^ k) (suc n) (2 ^ k) (omega (arith, more)) (omega arith) in
    let ups = add-mul n 1 (2 ^ k) in
    let one = pow_pos k in
    let above : 2 ^ 63 ≤ n * 2 ^ k = omega (arith, least, ups, size) in
    let below : n * 2 ^ k < 2 ^ 64 = omega (arith, parts, rests, halves, same, size, one) in
    let left : 2 ^ 64 - suc (n * 2 ^ k) ≡ rest * 2 ^ k + (2 ^ k - 1) = omega (arith, parts, rests, halves, same, size, one) in
    ap (λ (a : ℕ). cast_unsigned w64 (int_shr (cast_signed w64 a) k)) (whole (n * 2 ^ k) below)
    ∙ ap (λ (z : ℤ). cast_unsigned w64 (int_shr z k)) (signed_high (n * 2 ^ k) above below)
    ∙ ap (λ (a : ℕ). cast_unsigned w64 (int_shr (negsuc a) k)) left
    ∙ ap (λ (a : ℕ). cast_unsigned w64 (negsuc a)) (shr_high rest k (2 ^ k - 1) (omega (arith, one)))

by_sign : (n k half two : ℕ) (b : Bool) → half * 2 ^ k ≡ 2 ^ 63 → half + half ≡ two → n < two → two ≤ 2 ^ 64 → nat_lt n half ≡ b
    → shifted_back n k ≡ (if b then n else n + (2 ^ 64 - two))
by_sign n k half two true size sum less most is = low n k half size (ltb-true n half is)
by_sign n k half two false size sum less most is =
    let more : half ≤ n = ltb-false n half is in
    high n k half (half + half - suc n) size more (omega (arith, sum, less, more))
    ∙ omega (arith, sum, less, more, most)

pub extended_by_shifts : (width n : ℕ) → 0 < width → width < 64 → n < 2 ^ width → shifted_back n (64 - width) ≡ sign_extended width n
extended_by_shifts width n some most less =
    let half : ℕ = 2 ^ (width - 1) in
    let places : width - 1 + (64 - width) ≡ 63 = omega (arith, some, most) in
    let size : half * 2 ^ (64 - width) ≡ 2 ^ 63 = sym (pow-add 2 (width - 1) (64 - width)) ∙ ap (λ (k : ℕ). 2 ^ k) places in
    let next : width - 1 + 1 ≡ width = omega (arith, some) in
    let twice : half * 2 ^ 1 ≡ 2 ^ width = sym (pow-add 2 (width - 1) 1) ∙ ap (λ (k : ℕ). 2 ^ k) next in
    let sum : half + half ≡ 2 ^ width = omega (arith, twice) in
    by_sign n (64 - width) half (2 ^ width) (nat_lt n half) size sum less (omega (arith, pow_below width 64 most)) refl
