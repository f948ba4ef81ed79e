-- A word fits a row where each of its fields does.
use Rattle.std.proofs.Common.{◌≡◌, ℕ, ◌+◌, ◌*◌, ◌^◌, ◌%◌, ◌/◌, ◌&&◌, refl, sym, ap, ◌∙◌, Bool, true, false, bit_and}
use Rattle.std.proofs.lemmas.Bool.{eqb-true, eq-eqb, and_parts, and_from}
use Rattle.std.proofs.lemmas.Nat.{and_mod, and_shr, shr_split, shr-shr}
use Rattle.std.proofs.Math.Dec.{eqb}

-- two tests that hold together are one
same_test : (x y : Bool) → (x ≡ true → y ≡ true) → (y ≡ true → x ≡ true) → x ≡ y
same_test true y to from = sym (to refl)
same_test false true to from = from refl
same_test false false to from = refl

-- numbers are equal where their low bits and the others are
eqb_split : (k a b : ℕ) → eqb a b ≡ (eqb (a % 2 ^ k) (b % 2 ^ k) && eqb (a / 2 ^ k) (b / 2 ^ k))
eqb_split k a b =
    same_test (eqb a b) _
    (λ e.
    and_from (eqb (a % 2 ^ k) (b % 2 ^ k)) (eqb (a / 2 ^ k) (b / 2 ^ k))
    (eq-eqb _ _ (ap (λ n. n % 2 ^ k) (eqb-true a b e)))
    (eq-eqb _ _ (ap (λ n. n / 2 ^ k) (eqb-true a b e))))
    (λ e.
    let t = and_parts (eqb (a % 2 ^ k) (b % 2 ^ k)) (eqb (a / 2 ^ k) (b / 2 ^ k)) e in
    let low = eqb-true (a % 2 ^ k) (b % 2 ^ k) t.0 in
    let high = eqb-true (a / 2 ^ k) (b / 2 ^ k) t.1 in
    eq-eqb a b (sym (shr_split a k) ∙ ap (λ n. n * 2 ^ k + a % 2 ^ k) high ∙ ap (λ n. b / 2 ^ k * 2 ^ k + n) low ∙ shr_split b k))

-- whether a number has, under a mask, what must match
abbrev pub fits : ℕ → ℕ → ℕ → Bool
fits mask matched n = eqb (bit_and mask n) matched

-- the bits from i on: the next k of them, and the others
pub fits_split : (i k mask matched n : ℕ) →
    fits (mask / 2 ^ i) (matched / 2 ^ i) (n / 2 ^ i)
    ≡ (fits (mask / 2 ^ i % 2 ^ k) (matched / 2 ^ i % 2 ^ k) (n / 2 ^ i % 2 ^ k)
    && fits (mask / 2 ^ (i + k)) (matched / 2 ^ (i + k)) (n / 2 ^ (i + k)))
fits_split i k mask matched n =
    rw (sym (shr-shr mask i k)) (rw (sym (shr-shr matched i k)) (rw (sym (shr-shr n i k)) (
    rw (sym (and_mod (mask / 2 ^ i) (n / 2 ^ i) k)) (rw (sym (and_shr (mask / 2 ^ i) (n / 2 ^ i) k)) (
    eqb_split k (bit_and (mask / 2 ^ i) (n / 2 ^ i)) (matched / 2 ^ i))))))
