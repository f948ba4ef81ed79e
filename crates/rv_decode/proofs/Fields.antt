-- The table may be walked by the fields of a word, the function fields first.
use Rattle.std.proofs.Common.{◌≡◌, ℕ, ◌-◌, ◌^◌, ◌/◌, ◌<◌, ◌&&◌, refl, sym, ap, ◌∙◌, Bool, true, false, cond, List, [], ◌∷◌, Option, Some, None, bit_and, arith}
use Rattle.std.proofs.lemmas.Bool.{eqb-true}
use Rattle.std.proofs.lemmas.Nat.{and_comm, and_mask}
use Rattle.std.proofs.Math.Dec.{eqb}
use Rattle.std.proofs.Math.Nat.{mod-eq_of_lt}
use Rattle.std.proofs.Math.Bool.{and_comm as both_comm, and_assoc as both_assoc}
use Rattle.rv_rows.specs.declared.instr.Instr.{Instr}
use Rattle.rv_rows.specs.Table.{Encoding, rows, first_row, instr_of}
use Rattle.rv_rows.specs.Fields.{bits}
use Rattle.rv_decode.proofs.Split.{fits, fits_split}

-- whether a field of some bits fits: where the mask has them all, it is what must match
abbrev pub field_fits : ℕ → ℕ → ℕ → ℕ → Bool
field_fits width mask matched field =
    cond (eqb mask (2 ^ width - 1)) (eqb field matched) (fits mask matched field)

by_mask : (width mask matched field : ℕ) → field < 2 ^ width → (b : Bool) → eqb mask (2 ^ width - 1) ≡ b →
    cond b (eqb field matched) (fits mask matched field) ≡ fits mask matched field
by_mask width mask matched field small true e =
    let same : bit_and mask field ≡ field =
    ap (λ n. bit_and n field) (eqb-true mask (2 ^ width - 1) e) ∙ and_comm (2 ^ width - 1) field ∙ and_mask field width ∙ mod-eq_of_lt small in
    ap (λ n. eqb n matched) (sym same)
by_mask width mask matched field small false e = refl

field_fits-is : (width mask matched field : ℕ) → field < 2 ^ width → field_fits width mask matched field ≡ fits mask matched field
field_fits-is width mask matched field small = by_mask width mask matched field small (eqb mask (2 ^ width - 1)) refl

-- opcode, funct3, funct7, rs2, rs1 and rd
abbrev pub encoding_fits : Encoding → ℕ → ℕ → ℕ → ℕ → ℕ → ℕ → Bool
encoding_fits it o f g b a d =
    field_fits 7 (bits 6 0 it.mask) (bits 6 0 it.matched) o
    && (field_fits 3 (bits 14 12 it.mask) (bits 14 12 it.matched) f
    && (field_fits 7 (it.mask / 2 ^ 25) (it.matched / 2 ^ 25) g
    && (field_fits 5 (bits 24 20 it.mask) (bits 24 20 it.matched) b
    && (field_fits 5 (bits 19 15 it.mask) (bits 19 15 it.matched) a
    && field_fits 5 (bits 11 7 it.mask) (bits 11 7 it.matched) d))))

-- the first row whose fields fit
abbrev pub first_by : List Encoding → ℕ → ℕ → ℕ → ℕ → ℕ → ℕ → ℕ → Option Instr
first_by [] word o f g b a d = None
first_by (it ∷ more) word o f g b a d = cond (encoding_fits it o f g b a d) (Some (it.instr word)) (first_by more word o f g b a d)

swap : (x y z : Bool) → (x && (y && z)) ≡ (y && (x && z))
swap true y z = refl
swap false true z = refl
swap false false z = refl

reordered : (o d f a b g : Bool) → (o && (d && (f && (a && (b && g))))) ≡ (o && (f && (g && (b && (a && d)))))
reordered o d f a b g =
    ap (λ x. o && x) (
    swap d f (a && (b && g))
    ∙ ap (λ x. f && x) (
    ap (λ x. d && x) (both_comm a (b && g) ∙ ap (λ x. x && a) (both_comm b g))
    ∙ ap (λ x. d && x) (both_assoc g b a)
    ∙ swap d g (b && a)
    ∙ ap (λ x. g && x) (swap d b a ∙ ap (λ x. b && x) (both_comm d a))))

-- the parts of a number's bits, from the lowest on
in_place : (mask matched n : ℕ) →
    fits mask matched n
    ≡ (fits (bits 6 0 mask) (bits 6 0 matched) (bits 6 0 n)
    && (fits (bits 11 7 mask) (bits 11 7 matched) (bits 11 7 n)
    && (fits (bits 14 12 mask) (bits 14 12 matched) (bits 14 12 n)
    && (fits (bits 19 15 mask) (bits 19 15 matched) (bits 19 15 n)
    && (fits (bits 24 20 mask) (bits 24 20 matched) (bits 24 20 n)
    && fits (mask / 2 ^ 25) (matched / 2 ^ 25) (n / 2 ^ 25))))))
in_place mask matched n =
    let whole : (k : ℕ) → k ≡ k / 1 = λ k. omega arith in
    ap (λ k. fits k matched n) (whole mask) ∙ ap (λ k. fits (mask / 1) k n) (whole matched) ∙ ap (λ k. fits (mask / 1) (matched / 1) k) (whole n)
    ∙ fits_split 0 7 mask matched n
    ∙ ap (λ t. fits (bits 6 0 mask) (bits 6 0 matched) (bits 6 0 n) && t) (
    fits_split 7 5 mask matched n
    ∙ ap (λ t. fits (bits 11 7 mask) (bits 11 7 matched) (bits 11 7 n) && t) (
    fits_split 12 3 mask matched n
    ∙ ap (λ t. fits (bits 14 12 mask) (bits 14 12 matched) (bits 14 12 n) && t) (
    fits_split 15 5 mask matched n
    ∙ ap (λ t. fits (bits 19 15 mask) (bits 19 15 matched) (bits 19 15 n) && t) (fits_split 20 5 mask matched n))))

-- by what the fields of the word are
abbrev pub by_fields : List Encoding → ℕ → Option Instr
by_fields encodings word = first_by encodings word (bits 6 0 word) (bits 14 12 word) (bits 31 25 word) (bits 24 20 word) (bits 19 15 word) (bits 11 7 word)

top_fits : (mask matched word : ℕ) → word < 2 ^ 32 → fits mask matched (word / 2 ^ 25) ≡ field_fits 7 mask matched (bits 31 25 word)
top_fits mask matched word small =
    let top : word / 2 ^ 25 ≡ bits 31 25 word = omega arith in
    ap (λ k. fits mask matched k) top ∙ sym (field_fits-is 7 mask matched (bits 31 25 word) (omega arith))

encoding_fits-is : (it : Encoding) (word : ℕ) → word < 2 ^ 32 →
    fits it.mask it.matched word
    ≡ encoding_fits it (bits 6 0 word) (bits 14 12 word) (bits 31 25 word) (bits 24 20 word) (bits 19 15 word) (bits 11 7 word)
encoding_fits-is it word small =
    in_place it.mask it.matched word
    ∙ reordered (fits (bits 6 0 it.mask) (bits 6 0 it.matched) (bits 6 0 word)) (fits (bits 11 7 it.mask) (bits 11 7 it.matched) (bits 11 7 word))
    (fits (bits 14 12 it.mask) (bits 14 12 it.matched) (bits 14 12 word)) (fits (bits 19 15 it.mask) (bits 19 15 it.matched) (bits 19 15 word))
    (fits (bits 24 20 it.mask) (bits 24 20 it.matched) (bits 24 20 word)) (fits (it.mask / 2 ^ 25) (it.matched / 2 ^ 25) (word / 2 ^ 25))
    ∙ rw (top_fits (it.mask / 2 ^ 25) (it.matched / 2 ^ 25) word small) (
    rw (field_fits-is 7 (bits 6 0 it.mask) (bits 6 0 it.matched) (bits 6 0 word) (omega arith)) (
    rw (field_fits-is 3 (bits 14 12 it.mask) (bits 14 12 it.matched) (bits 14 12 word) (omega arith)) (
    rw (field_fits-is 5 (bits 24 20 it.mask) (bits 24 20 it.matched) (bits 24 20 word) (omega arith)) (
    rw (field_fits-is 5 (bits 19 15 it.mask) (bits 19 15 it.matched) (bits 19 15 word) (omega arith)) (
    rw (field_fits-is 5 (bits 11 7 it.mask) (bits 11 7 it.matched) (bits 11 7 word) (omega arith)) refl)))))

pub first_row-by : (encodings : List Encoding) (word : ℕ) → word < 2 ^ 32 → first_row encodings word ≡ by_fields encodings word
first_row-by [] word small = refl
first_row-by (it ∷ more) word small =
    rw (and_comm word it.mask) (rw (encoding_fits-is it word small) (rw (first_row-by more word small) refl))

-- what a word of this opcode is, and of this funct3
pub instr_of-by : (word o : ℕ) → word < 2 ^ 32 → bits 6 0 word ≡ o →
    instr_of word ≡ first_by rows word o (bits 14 12 word) (bits 31 25 word) (bits 24 20 word) (bits 19 15 word) (bits 11 7 word)
unfolding instr_of
instr_of-by word o small is = rw (sym is) (first_row-by rows word small)
