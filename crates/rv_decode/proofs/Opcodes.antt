-- What the words of each opcode are.
use Rattle.std.proofs.Common.{◌≡◌, ℕ, ◌+◌, ◌*◌, ◌^◌, ◌<◌, ◌≤◌, ◌==◌, refl, sym, ap, ◌∙◌, true, false, cond, if◌then◌else◌, List, [], ◌∷◌, Option, Some, None, bit_and, arith}
use Rattle.std.proofs.lemmas.Bool.{ne_eqb}
use Rattle.std.proofs.lemmas.Nat.{and_mask}
use Rattle.std.proofs.Math.Nat.{mod-eq_of_lt}
use Rattle.std.proofs.Math.Dec.{eqb}
use Rattle.std.proofs.Math.Bool.{and-true}
use Rattle.rv_rows.specs.declared.alu.AluOp.TheVariants as AluOp
use Rattle.rv_rows.specs.declared.instr.Instr.{Instr}
use Rattle.rv_rows.specs.declared.instr.Instr.TheVariants.{Lui, Auipc, Jal, Jalr, Branch, Load, Store, AluImm, Alu, MulDiv, Fence, FenceI, Ecall, Ebreak, Sret, Wfi, SfenceVma}
use Rattle.rv_rows.specs.Table.{Encoding, row, rows, instr_of, r_type, i_type, s_type, b_type, u_type, j_type, shift, word_shift, csr_type, csr_imm_type, plain}
use Rattle.rv_rows.specs.Fields.{bits}
use Rattle.rv_decode.specs.Functions.{opcode, funct3, funct5, funct6, funct7, choice, with_choice, load_kinds, store_widths, branch_conditions, immediate_ops, left_shifts, right_shifts, left_word_shifts, right_word_shifts, alu_ops, other_alu_ops, muldiv_ops, word_ops, other_word_ops, word_muldiv_ops, atomic_widths, csr_ops, csr_imm_ops, atomic_by, atomic_of}
use Rattle.rv_decode.proofs.Fields.{first_by, first_row-by, instr_of-by}
use Rattle.rv_decode.proofs.Choices.{below_8, below_4, below_32, with_choice-cond, at_three, above_bit_25, above_bit_26}

-- the first row that fits a word of this opcode and funct3
abbrev pub first_at : ℕ → ℕ → ℕ → Option Instr
first_at word o f = first_by rows word o f (funct7 word) (bits 24 20 word) (bits 19 15 word) (bits 11 7 word)

-- by funct3: loads, fences, stores, branches and JALR
pub loads : (word : ℕ) → word < 2 ^ 32 → opcode word ≡ 0x03 →
    instr_of word ≡ with_choice (λ kind. i_type (Load kind)) (choice load_kinds (funct3 word)) word
loads word small is =
    instr_of-by word 0x03 small is
    ∙ below_8 (λ f. first_at word 0x03 f ≡ with_choice (λ kind. i_type (Load kind)) (choice load_kinds f) word)
    refl refl refl refl refl refl refl refl
    (funct3 word) (omega arith)

pub fences : (word : ℕ) → word < 2 ^ 32 → opcode word ≡ 0x0f →
    instr_of word ≡ (if funct3 word == 0 then Some Fence else if funct3 word == 1 then Some FenceI else None)
fences word small is =
    instr_of-by word 0x0f small is
    ∙ below_8 (λ f. first_at word 0x0f f ≡ (if f == 0 then Some Fence else if f == 1 then Some FenceI else None))
    refl refl refl refl refl refl refl refl
    (funct3 word) (omega arith)

pub stores : (word : ℕ) → word < 2 ^ 32 → opcode word ≡ 0x23 →
    instr_of word ≡ with_choice (λ width. s_type (Store width)) (choice store_widths (funct3 word)) word
stores word small is =
    instr_of-by word 0x23 small is
    ∙ below_8 (λ f. first_at word 0x23 f ≡ with_choice (λ width. s_type (Store width)) (choice store_widths f) word)
    refl refl refl refl refl refl refl refl
    (funct3 word) (omega arith)

pub branches : (word : ℕ) → word < 2 ^ 32 → opcode word ≡ 0x63 →
    instr_of word ≡ with_choice (λ condition. b_type (Branch condition)) (choice branch_conditions (funct3 word)) word
branches word small is =
    instr_of-by word 0x63 small is
    ∙ below_8 (λ f. first_at word 0x63 f ≡ with_choice (λ condition. b_type (Branch condition)) (choice branch_conditions f) word)
    refl refl refl refl refl refl refl refl
    (funct3 word) (omega arith)

pub register_jumps : (word : ℕ) → word < 2 ^ 32 → opcode word ≡ 0x67 →
    instr_of word ≡ (if funct3 word == 0 then Some (i_type Jalr word) else None)
register_jumps word small is =
    instr_of-by word 0x67 small is
    ∙ below_8 (λ f. first_at word 0x67 f ≡ (if f == 0 then Some (i_type Jalr word) else None))
    refl refl refl refl refl refl refl refl
    (funct3 word) (omega arith)

-- the shifts by an immediate, by the bits above the amount
left : (word : ℕ) → first_at word 0x13 1 ≡ with_choice (λ op. shift (AluImm op)) (choice left_shifts (funct6 word)) word
left word = rw (above_bit_25 word 0) (rw (and-true (eqb (funct6 word) 0)) (rw (with_choice-cond (λ op. shift (AluImm op)) (eqb (funct6 word) 0) (Some AluOp.Sll) None word) refl))

right : (word : ℕ) → first_at word 0x13 5 ≡ with_choice (λ op. shift (AluImm op)) (choice right_shifts (funct6 word)) word
right word =
    rw (above_bit_25 word 0) (rw (above_bit_25 word 16) (rw (and-true (eqb (funct6 word) 0)) (rw (and-true (eqb (funct6 word) 16)) (
    rw (with_choice-cond (λ op. shift (AluImm op)) (eqb (funct6 word) 0) (Some AluOp.Srl) (cond (eqb (funct6 word) 16) (Some AluOp.Sra) None) word) (
    rw (with_choice-cond (λ op. shift (AluImm op)) (eqb (funct6 word) 16) (Some AluOp.Sra) None word) refl)))))

left_word : (word : ℕ) → first_at word 0x1b 1 ≡ with_choice (λ op. word_shift (AluImm op)) (choice left_word_shifts (funct7 word)) word
left_word word = rw (and-true (eqb (funct7 word) 0)) (rw (with_choice-cond (λ op. word_shift (AluImm op)) (eqb (funct7 word) 0) (Some AluOp.Sllw) None word) refl)

right_word : (word : ℕ) → first_at word 0x1b 5 ≡ with_choice (λ op. word_shift (AluImm op)) (choice right_word_shifts (funct7 word)) word
right_word word =
    rw (and-true (eqb (funct7 word) 0)) (rw (and-true (eqb (funct7 word) 32)) (
    rw (with_choice-cond (λ op. word_shift (AluImm op)) (eqb (funct7 word) 0) (Some AluOp.Srlw) (cond (eqb (funct7 word) 32) (Some AluOp.Sraw) None) word) (
    rw (with_choice-cond (λ op. word_shift (AluImm op)) (eqb (funct7 word) 32) (Some AluOp.Sraw) None word) refl)))

pub left_shifted : (word : ℕ) → word < 2 ^ 32 → opcode word ≡ 0x13 → funct3 word ≡ 1 →
    instr_of word ≡ with_choice (λ op. shift (AluImm op)) (choice left_shifts (funct6 word)) word
left_shifted word small is is_1 = instr_of-by word 0x13 small is ∙ ap (λ f. first_at word 0x13 f) is_1 ∙ left word

pub right_shifted : (word : ℕ) → word < 2 ^ 32 → opcode word ≡ 0x13 → funct3 word ≡ 5 →
    instr_of word ≡ with_choice (λ op. shift (AluImm op)) (choice right_shifts (funct6 word)) word
right_shifted word small is is_5 = instr_of-by word 0x13 small is ∙ ap (λ f. first_at word 0x13 f) is_5 ∙ right word

pub immediates : (word : ℕ) → word < 2 ^ 32 → opcode word ≡ 0x13 → (funct3 word ≡ 1 → ⊥) → (funct3 word ≡ 5 → ⊥) →
    instr_of word ≡ with_choice (λ op. i_type (AluImm op)) (choice immediate_ops (funct3 word)) word
immediates word small is not_1 not_5 =
    instr_of-by word 0x13 small is
    ∙ below_8 (λ f. (f ≡ 1 → ⊥) → (f ≡ 5 → ⊥) → first_at word 0x13 f ≡ with_choice (λ op. i_type (AluImm op)) (choice immediate_ops f) word)
    (λ n m. refl) (λ n m. absurd (n refl)) (λ n m. refl) (λ n m. refl) (λ n m. refl) (λ n m. absurd (m refl)) (λ n m. refl) (λ n m. refl)
    (funct3 word) (omega arith) not_1 not_5

pub word_immediates : (word : ℕ) → word < 2 ^ 32 → opcode word ≡ 0x1b →
    instr_of word
    ≡ (if funct3 word == 0 then with_choice (λ op. i_type (AluImm op)) (Some AluOp.Addw) word
    else if funct3 word == 1 then with_choice (λ op. word_shift (AluImm op)) (choice left_word_shifts (funct7 word)) word
    else if funct3 word == 5 then with_choice (λ op. word_shift (AluImm op)) (choice right_word_shifts (funct7 word)) word
    else None)
word_immediates word small is =
    instr_of-by word 0x1b small is
    ∙ below_8 (λ f.
    first_at word 0x1b f
    ≡ (if f == 0 then with_choice (λ op. i_type (AluImm op)) (Some AluOp.Addw) word
    else if f == 1 then with_choice (λ op. word_shift (AluImm op)) (choice left_word_shifts (funct7 word)) word
    else if f == 5 then with_choice (λ op. word_shift (AluImm op)) (choice right_word_shifts (funct7 word)) word
    else None))
    refl (left_word word) refl refl refl (right_word word) refl refl
    (funct3 word) (omega arith)

-- OP: no row has another funct7
operations_none : (word b a d f : ℕ) → f < 8 → (g : ℕ) → eqb g 0 ≡ false → eqb g 32 ≡ false → eqb g 1 ≡ false →
    first_by rows word 0x33 f g b a d ≡ None
operations_none word b a d f small g not_0 not_32 not_1 =
    below_8 (λ f. first_by rows word 0x33 f g b a d ≡ None)
    (simp (not_0, not_32, not_1) refl)
    (simp (not_0, not_1) refl)
    (simp (not_0, not_1) refl)
    (simp (not_0, not_1) refl)
    (simp (not_0, not_1) refl)
    (simp (not_0, not_32, not_1) refl)
    (simp (not_0, not_1) refl)
    (simp (not_0, not_1) refl)
    f small

pub operations : (word : ℕ) → word < 2 ^ 32 → opcode word ≡ 0x33 →
    instr_of word
    ≡ (if funct7 word == 0 then with_choice (λ op. r_type (Alu op)) (choice alu_ops (funct3 word)) word
    else if funct7 word == 32 then with_choice (λ op. r_type (Alu op)) (choice other_alu_ops (funct3 word)) word
    else if funct7 word == 1 then with_choice (λ op. r_type (MulDiv op)) (choice muldiv_ops (funct3 word)) word
    else None)
operations word small is =
    let below : funct3 word < 8 = omega arith in
    instr_of-by word 0x33 small is
    ∙ at_three (λ g. first_by rows word 0x33 (funct3 word) g (bits 24 20 word) (bits 19 15 word) (bits 11 7 word))
    0 32 1 _ _ _
    (below_8 (λ f. first_by rows word 0x33 f 0 (bits 24 20 word) (bits 19 15 word) (bits 11 7 word) ≡ with_choice (λ op. r_type (Alu op)) (choice alu_ops f) word)
    refl refl refl refl refl refl refl refl (funct3 word) below)
    (below_8 (λ f. first_by rows word 0x33 f 32 (bits 24 20 word) (bits 19 15 word) (bits 11 7 word) ≡ with_choice (λ op. r_type (Alu op)) (choice other_alu_ops f) word)
    refl refl refl refl refl refl refl refl (funct3 word) below)
    (below_8 (λ f. first_by rows word 0x33 f 1 (bits 24 20 word) (bits 19 15 word) (bits 11 7 word) ≡ with_choice (λ op. r_type (MulDiv op)) (choice muldiv_ops f) word)
    refl refl refl refl refl refl refl refl (funct3 word) below)
    (operations_none word (bits 24 20 word) (bits 19 15 word) (bits 11 7 word) (funct3 word) below)
    (funct7 word) _ _ _ refl refl refl

-- OP-32 likewise
word_operations_none : (word b a d f : ℕ) → f < 8 → (g : ℕ) → eqb g 0 ≡ false → eqb g 32 ≡ false → eqb g 1 ≡ false →
    first_by rows word 0x3b f g b a d ≡ None
word_operations_none word b a d f small g not_0 not_32 not_1 =
    below_8 (λ f. first_by rows word 0x3b f g b a d ≡ None)
    (simp (not_0, not_32, not_1) refl)
    (rw not_0 refl)
    refl
    refl
    (rw not_1 refl)
    (simp (not_0, not_32, not_1) refl)
    (rw not_1 refl)
    (rw not_1 refl)
    f small

pub word_operations : (word : ℕ) → word < 2 ^ 32 → opcode word ≡ 0x3b →
    instr_of word
    ≡ (if funct7 word == 0 then with_choice (λ op. r_type (Alu op)) (choice word_ops (funct3 word)) word
    else if funct7 word == 32 then with_choice (λ op. r_type (Alu op)) (choice other_word_ops (funct3 word)) word
    else if funct7 word == 1 then with_choice (λ op. r_type (MulDiv op)) (choice word_muldiv_ops (funct3 word)) word
    else None)
word_operations word small is =
    let below : funct3 word < 8 = omega arith in
    instr_of-by word 0x3b small is
    ∙ at_three (λ g. first_by rows word 0x3b (funct3 word) g (bits 24 20 word) (bits 19 15 word) (bits 11 7 word))
    0 32 1 _ _ _
    (below_8 (λ f. first_by rows word 0x3b f 0 (bits 24 20 word) (bits 19 15 word) (bits 11 7 word) ≡ with_choice (λ op. r_type (Alu op)) (choice word_ops f) word)
    refl refl refl refl refl refl refl refl (funct3 word) below)
    (below_8 (λ f. first_by rows word 0x3b f 32 (bits 24 20 word) (bits 19 15 word) (bits 11 7 word) ≡ with_choice (λ op. r_type (Alu op)) (choice other_word_ops f) word)
    refl refl refl refl refl refl refl refl (funct3 word) below)
    (below_8 (λ f. first_by rows word 0x3b f 1 (bits 24 20 word) (bits 19 15 word) (bits 11 7 word) ≡ with_choice (λ op. r_type (MulDiv op)) (choice word_muldiv_ops f) word)
    refl refl refl refl refl refl refl refl (funct3 word) below)
    (word_operations_none word (bits 24 20 word) (bits 19 15 word) (bits 11 7 word) (funct3 word) below)
    (funct7 word) _ _ _ refl refl refl

-- by funct5, for both widths
atomics_at : (word g b a d n : ℕ) → n < 32 → bit_and 124 g ≡ n * 4 →
    (first_by rows word 0x2f 2 g b a d ≡ atomic_by false b n word) × (first_by rows word 0x2f 3 g b a d ≡ atomic_by true b n word)
atomics_at word g b a d n small =
    below_32 (λ n. bit_and 124 g ≡ n * 4 →
    (first_by rows word 0x2f 2 g b a d ≡ atomic_by false b n word) × (first_by rows word 0x2f 3 g b a d ≡ atomic_by true b n word))
    (below_8 (λ q. (r : ℕ) → r < 4 → bit_and 124 g ≡ (q * 4 + r) * 4 →
    (first_by rows word 0x2f 2 g b a d ≡ atomic_by false b (q * 4 + r) word) × (first_by rows word 0x2f 3 g b a d ≡ atomic_by true b (q * 4 + r) word))
    (below_4 (λ r. bit_and 124 g ≡ (0 + r) * 4 →
    (first_by rows word 0x2f 2 g b a d ≡ atomic_by false b (0 + r) word) × (first_by rows word 0x2f 3 g b a d ≡ atomic_by true b (0 + r) word))
    (λ e. (rw e refl, rw e refl)) (λ e. (rw e refl, rw e refl)) (λ e. (rw e (rw (and-true (eqb b 0)) refl), rw e (rw (and-true (eqb b 0)) refl))) (λ e. (rw e refl, rw e refl)))
    (below_4 (λ r. bit_and 124 g ≡ (4 + r) * 4 →
    (first_by rows word 0x2f 2 g b a d ≡ atomic_by false b (4 + r) word) × (first_by rows word 0x2f 3 g b a d ≡ atomic_by true b (4 + r) word))
    (λ e. (rw e refl, rw e refl)) (λ e. (rw e refl, rw e refl)) (λ e. (rw e refl, rw e refl)) (λ e. (rw e refl, rw e refl)))
    (below_4 (λ r. bit_and 124 g ≡ (8 + r) * 4 →
    (first_by rows word 0x2f 2 g b a d ≡ atomic_by false b (8 + r) word) × (first_by rows word 0x2f 3 g b a d ≡ atomic_by true b (8 + r) word))
    (λ e. (rw e refl, rw e refl)) (λ e. (rw e refl, rw e refl)) (λ e. (rw e refl, rw e refl)) (λ e. (rw e refl, rw e refl)))
    (below_4 (λ r. bit_and 124 g ≡ (12 + r) * 4 →
    (first_by rows word 0x2f 2 g b a d ≡ atomic_by false b (12 + r) word) × (first_by rows word 0x2f 3 g b a d ≡ atomic_by true b (12 + r) word))
    (λ e. (rw e refl, rw e refl)) (λ e. (rw e refl, rw e refl)) (λ e. (rw e refl, rw e refl)) (λ e. (rw e refl, rw e refl)))
    (below_4 (λ r. bit_and 124 g ≡ (16 + r) * 4 →
    (first_by rows word 0x2f 2 g b a d ≡ atomic_by false b (16 + r) word) × (first_by rows word 0x2f 3 g b a d ≡ atomic_by true b (16 + r) word))
    (λ e. (rw e refl, rw e refl)) (λ e. (rw e refl, rw e refl)) (λ e. (rw e refl, rw e refl)) (λ e. (rw e refl, rw e refl)))
    (below_4 (λ r. bit_and 124 g ≡ (20 + r) * 4 →
    (first_by rows word 0x2f 2 g b a d ≡ atomic_by false b (20 + r) word) × (first_by rows word 0x2f 3 g b a d ≡ atomic_by true b (20 + r) word))
    (λ e. (rw e refl, rw e refl)) (λ e. (rw e refl, rw e refl)) (λ e. (rw e refl, rw e refl)) (λ e. (rw e refl, rw e refl)))
    (below_4 (λ r. bit_and 124 g ≡ (24 + r) * 4 →
    (first_by rows word 0x2f 2 g b a d ≡ atomic_by false b (24 + r) word) × (first_by rows word 0x2f 3 g b a d ≡ atomic_by true b (24 + r) word))
    (λ e. (rw e refl, rw e refl)) (λ e. (rw e refl, rw e refl)) (λ e. (rw e refl, rw e refl)) (λ e. (rw e refl, rw e refl)))
    (below_4 (λ r. bit_and 124 g ≡ (28 + r) * 4 →
    (first_by rows word 0x2f 2 g b a d ≡ atomic_by false b (28 + r) word) × (first_by rows word 0x2f 3 g b a d ≡ atomic_by true b (28 + r) word))
    (λ e. (rw e refl, rw e refl)) (λ e. (rw e refl, rw e refl)) (λ e. (rw e refl, rw e refl)) (λ e. (rw e refl, rw e refl)))
    ) n small

-- AMO: by funct3 the width, by funct5 the operation
pub atomics : (word : ℕ) → word < 2 ^ 32 → opcode word ≡ 0x2f →
    instr_of word ≡ atomic_of (choice atomic_widths (funct3 word)) word
atomics word small is =
    let at = atomics_at word (funct7 word) (bits 24 20 word) (bits 19 15 word) (bits 11 7 word) (funct5 word) (omega arith) (above_bit_26 word) in
    instr_of-by word 0x2f small is
    ∙ below_8 (λ f. first_at word 0x2f f ≡ atomic_of (choice atomic_widths f) word)
    refl refl (at.0) (at.1) refl refl refl refl
    (funct3 word) (omega arith)

-- the rows of SYSTEM with funct3 0
abbrev plain_rows : List Encoding
plain_rows =
    row 0xffffffff 0x00000073 (plain Ecall)
    ∷ row 0xffffffff 0x00100073 (plain Ebreak)
    ∷ row 0xffffffff 0x10200073 (plain Sret)
    ∷ row 0xffffffff 0x10500073 (plain Wfi)
    ∷ row 0xfe007fff 0x12000073 (plain SfenceVma)
    ∷ []

pub plain_systems : (word : ℕ) → word < 2 ^ 32 → opcode word ≡ 0x73 → funct3 word ≡ 0 →
    instr_of word
    ≡ (if word == 0x73 then Some Ecall
    else if word == 0x100073 then Some Ebreak
    else if word == 0x10200073 then Some Sret
    else if word == 0x10500073 then Some Wfi
    else if bit_and word 0xfe007fff == 0x12000073 then Some SfenceVma
    else None)
plain_systems word small is is_0 =
    let whole : bit_and word 0xffffffff ≡ word = and_mask word 32 ∙ mod-eq_of_lt small in
    instr_of-by word 0x73 small is
    ∙ ap (λ f. first_at word 0x73 f) is_0
    ∙ ap (λ o. first_by plain_rows word o 0 (funct7 word) (bits 24 20 word) (bits 19 15 word) (bits 11 7 word)) (sym is)
    ∙ ap (λ f. first_by plain_rows word (opcode word) f (funct7 word) (bits 24 20 word) (bits 19 15 word) (bits 11 7 word)) (sym is_0)
    ∙ sym (first_row-by plain_rows word small)
    ∙ rw whole refl

-- the CSR instructions
pub csr_registers : (word : ℕ) → word < 2 ^ 32 → opcode word ≡ 0x73 → (funct3 word ≡ 0 → ⊥) → funct3 word < 4 →
    instr_of word ≡ with_choice (λ op. csr_type op) (choice csr_ops (funct3 word)) word
csr_registers word small is not_0 low =
    instr_of-by word 0x73 small is
    ∙ below_8 (λ f. (f ≡ 0 → ⊥) → f < 4 → first_at word 0x73 f ≡ with_choice (λ op. csr_type op) (choice csr_ops f) word)
    (λ n l. absurd (n refl)) (λ n l. refl) (λ n l. refl) (λ n l. refl) (λ n l. absurd (omega arith)) (λ n l. absurd (omega arith)) (λ n l. absurd (omega arith)) (λ n l. absurd (omega arith))
    (funct3 word) (omega arith) not_0 low

pub csr_numbers : (word : ℕ) → word < 2 ^ 32 → opcode word ≡ 0x73 → 4 ≤ funct3 word →
    instr_of word ≡ with_choice (λ op. csr_imm_type op) (choice csr_imm_ops (funct3 word)) word
csr_numbers word small is high =
    instr_of-by word 0x73 small is
    ∙ below_8 (λ f. 4 ≤ f → first_at word 0x73 f ≡ with_choice (λ op. csr_imm_type op) (choice csr_imm_ops f) word)
    (λ h. absurd (omega arith)) (λ h. absurd (omega arith)) (λ h. absurd (omega arith)) (λ h. absurd (omega arith)) (λ h. refl) (λ h. refl) (λ h. refl) (λ h. refl)
    (funct3 word) (omega arith) high

-- opcodes of one instruction
pub upper_words : (word : ℕ) → word < 2 ^ 32 → opcode word ≡ 0x37 →
    instr_of word ≡ Some (u_type Lui word)
upper_words word small is = instr_of-by word 0x37 small is

pub pc_words : (word : ℕ) → word < 2 ^ 32 → opcode word ≡ 0x17 →
    instr_of word ≡ Some (u_type Auipc word)
pc_words word small is = instr_of-by word 0x17 small is

pub jumps : (word : ℕ) → word < 2 ^ 32 → opcode word ≡ 0x6f →
    instr_of word ≡ Some (j_type Jal word)
jumps word small is = instr_of-by word 0x6f small is

-- no row has another opcode
pub other_opcodes : (word : ℕ) → word < 2 ^ 32 →
    (opcode word ≡ 0x03 → ⊥) → (opcode word ≡ 0x0f → ⊥) → (opcode word ≡ 0x13 → ⊥) → (opcode word ≡ 0x17 → ⊥) → (opcode word ≡ 0x1b → ⊥) →
    (opcode word ≡ 0x23 → ⊥) → (opcode word ≡ 0x2f → ⊥) → (opcode word ≡ 0x33 → ⊥) → (opcode word ≡ 0x37 → ⊥) → (opcode word ≡ 0x3b → ⊥) →
    (opcode word ≡ 0x63 → ⊥) → (opcode word ≡ 0x67 → ⊥) → (opcode word ≡ 0x6f → ⊥) → (opcode word ≡ 0x73 → ⊥) →
    instr_of word ≡ None
other_opcodes word small not_03 not_0f not_13 not_17 not_1b not_23 not_2f not_33 not_37 not_3b not_63 not_67 not_6f not_73 =
    instr_of-by word (opcode word) small refl
    ∙ rw (ne_eqb (opcode word) 0x03 not_03) (rw (ne_eqb (opcode word) 0x0f not_0f) (rw (ne_eqb (opcode word) 0x13 not_13) (
    rw (ne_eqb (opcode word) 0x17 not_17) (rw (ne_eqb (opcode word) 0x1b not_1b) (
    rw (ne_eqb (opcode word) 0x23 not_23) (rw (ne_eqb (opcode word) 0x2f not_2f) (rw (ne_eqb (opcode word) 0x33 not_33) (
    rw (ne_eqb (opcode word) 0x37 not_37) (rw (ne_eqb (opcode word) 0x3b not_3b) (
    rw (ne_eqb (opcode word) 0x63 not_63) (rw (ne_eqb (opcode word) 0x67 not_67) (
    rw (ne_eqb (opcode word) 0x6f not_6f) (rw (ne_eqb (opcode word) 0x73 not_73) (refl))))))))))))))
