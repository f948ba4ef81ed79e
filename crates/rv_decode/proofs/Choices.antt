-- Numbers below 8, 32 and what is chosen by them.
use Rattle.std.proofs.Common.{◌≡◌, ℕ, ◌+◌, ◌*◌, ◌%◌, ◌/◌, ◌<◌, refl, ap, subst, ◌∙◌, zero, suc, Bool, true, false, cond, Option, None, bit_and, arith}
use Rattle.std.proofs.lemmas.Bool.{eqb-true, eqb-false, eq-eqb, ne_eqb}
use Rattle.std.proofs.lemmas.Nat.{and_comm}
use Rattle.std.proofs.lemmas.Nat.Bits.{and_high}
use Rattle.std.proofs.Math.Dec.{eqb}
use Rattle.rv_rows.specs.declared.instr.Instr.{Instr}
use Rattle.rv_decode.specs.Functions.{funct5, funct6, funct7, with_choice}

pub below_8 : (P : ℕ → Type 0) → P 0 → P 1 → P 2 → P 3 → P 4 → P 5 → P 6 → P 7 → (n : ℕ) → n < 8 → P n
below_8 P p0 p1 p2 p3 p4 p5 p6 p7 zero small = p0
below_8 P p0 p1 p2 p3 p4 p5 p6 p7 (suc zero) small = p1
below_8 P p0 p1 p2 p3 p4 p5 p6 p7 (suc (suc zero)) small = p2
below_8 P p0 p1 p2 p3 p4 p5 p6 p7 (suc (suc (suc zero))) small = p3
below_8 P p0 p1 p2 p3 p4 p5 p6 p7 (suc (suc (suc (suc zero)))) small = p4
below_8 P p0 p1 p2 p3 p4 p5 p6 p7 (suc (suc (suc (suc (suc zero))))) small = p5
below_8 P p0 p1 p2 p3 p4 p5 p6 p7 (suc (suc (suc (suc (suc (suc zero)))))) small = p6
below_8 P p0 p1 p2 p3 p4 p5 p6 p7 (suc (suc (suc (suc (suc (suc (suc zero))))))) small = p7
below_8 P p0 p1 p2 p3 p4 p5 p6 p7 (suc (suc (suc (suc (suc (suc (suc (suc n)))))))) small = absurd (omega arith)

pub below_4 : (P : ℕ → Type 0) → P 0 → P 1 → P 2 → P 3 → (n : ℕ) → n < 4 → P n
below_4 P p0 p1 p2 p3 zero small = p0
below_4 P p0 p1 p2 p3 (suc zero) small = p1
below_4 P p0 p1 p2 p3 (suc (suc zero)) small = p2
below_4 P p0 p1 p2 p3 (suc (suc (suc zero))) small = p3
below_4 P p0 p1 p2 p3 (suc (suc (suc (suc n)))) small = absurd (omega arith)

-- by the quotient and the rest
pub below_32 : (P : ℕ → Type 0) → ((q : ℕ) → q < 8 → (r : ℕ) → r < 4 → P (q * 4 + r)) → (n : ℕ) → n < 32 → P n
below_32 P each n small =
    let e : n / 4 * 4 + n % 4 ≡ n = omega arith in
    subst P e (each (n / 4) (omega arith) (n % 4) (omega arith))

pub with_choice-cond : {A : Type 0} (form : A → ℕ → Instr) (b : Bool) (x y : Option A) (word : ℕ) →
    with_choice form (cond b x y) word ≡ cond b (with_choice form x word) (with_choice form y word)
with_choice-cond form true x y word = refl
with_choice-cond form false x y word = refl

-- what goes by three numbers, and is None at all others
pub at_three : (F : ℕ → Option Instr) (k l m : ℕ) (x y z : Option Instr) → F k ≡ x → F l ≡ y → F m ≡ z →
    ((n : ℕ) → eqb n k ≡ false → eqb n l ≡ false → eqb n m ≡ false → F n ≡ None) →
    (n : ℕ) (b c d : Bool) → eqb n k ≡ b → eqb n l ≡ c → eqb n m ≡ d → F n ≡ cond b x (cond c y (cond d z None))
at_three F k l m x y z at_k at_l at_m others n true c d is_b is_c is_d = ap F (eqb-true n k is_b) ∙ at_k
at_three F k l m x y z at_k at_l at_m others n false true d is_b is_c is_d = ap F (eqb-true n l is_c) ∙ at_l
at_three F k l m x y z at_k at_l at_m others n false false true is_b is_c is_d = ap F (eqb-true n m is_d) ∙ at_m
at_three F k l m x y z at_k at_l at_m others n false false false is_b is_c is_d = others n is_b is_c is_d

twice : (n k : ℕ) (b : Bool) → eqb n k ≡ b → eqb (n * 2) (k * 2) ≡ b
twice n k true e = eq-eqb (n * 2) (k * 2) (ap (λ m. m * 2) (eqb-true n k e))
twice n k false e = ne_eqb (n * 2) (k * 2) (λ same. eqb-false n k e (omega arith))

-- funct7 without its lowest bit, and without its two lowest
pub above_bit_25 : (word k : ℕ) → eqb (bit_and 126 (funct7 word)) (k * 2) ≡ eqb (funct6 word) k
above_bit_25 word k =
    let e : bit_and 126 (funct7 word) ≡ funct6 word * 2 =
    and_comm 126 (funct7 word) ∙ and_high (funct7 word) 6 1 ∙ omega arith in
    rw e (twice (funct6 word) k _ refl)

pub above_bit_26 : (word : ℕ) → bit_and 124 (funct7 word) ≡ funct5 word * 4
above_bit_26 word = and_comm 124 (funct7 word) ∙ and_high (funct7 word) 5 2 ∙ omega arith
