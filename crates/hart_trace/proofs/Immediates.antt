-- The instructions of the table have immediates of 64 bits.
use Rattle.std.proofs.Common.{ℕ, ◌*◌, ◌^◌, ◌==◌, Bool, true, false, if◌then◌else◌, bit_and, List, [], ◌∷◌, Option, Some, None, arith}
use Rattle.rv_rows.specs.declared.instr.Instr.{Instr}
use Rattle.rv_rows.specs.declared.instr.Instr.TheVariants.{Lui, AluImm, CsrImm}
use Rattle.rv_rows.specs.Fields.{bits, csr_immediate, i_immediate, shift_amount, u_immediate, word_shift_amount}
use Rattle.rv_rows.specs.Table.{Encoding, first_row, instr_of, rows}
use Rattle.hart_trace.specs.Kept.{IsWord}
use Rattle.hart_trace.proofs.Values.{extended}

abbrev pub IsSmallInstr : Instr → Type 0
IsSmallInstr (Lui rd value) = IsWord value
IsSmallInstr (AluImm op rd rs1 value) = IsWord value
IsSmallInstr (CsrImm op rd csr value) = IsWord value
IsSmallInstr it = Unit {0}

abbrev pub IsSmallBy : Option Instr → Type 0
IsSmallBy None = Unit {0}
IsSmallBy (Some it) = IsSmallInstr it

upper : (word : ℕ) → IsWord (u_immediate word)
upper word = extended 32 (bits 31 12 word * 2 ^ 12) (omega arith) (omega arith)

twelve : (word : ℕ) → IsWord (i_immediate word)
twelve word = extended 12 (bits 31 20 word) (omega arith) (omega arith)

amount : (word : ℕ) → IsWord (shift_amount word)
amount word = omega arith

amount_32 : (word : ℕ) → IsWord (word_shift_amount word)
amount_32 word = omega arith

five : (word : ℕ) → IsWord (csr_immediate word)
five word = omega arith

-- of each row, whatever the word is
record AreSmall (encodings : List Encoding) : Type 0 where
  row : (word : ℕ) → IsSmallBy (first_row encodings word)

no_row : AreSmall []
no_row = record { row = λ word. tt }

by_row : (fits : Bool) (it : Instr) (more : Option Instr) → IsSmallInstr it → IsSmallBy more
    → IsSmallBy (if fits then Some it else more)
by_row true it more first others = first
by_row false it more first others = others

infixr 5 ◌⊳◌
◌⊳◌ : {it : Encoding} {more : List Encoding} → ((word : ℕ) → IsSmallInstr (it.instr word)) → AreSmall more
    → AreSmall (it ∷ more)
◌⊳◌ {it} {more} first others = record {
  row = λ word. by_row (bit_and word it.mask == it.matched) (it.instr word) (first_row more word) (first word) (others.row word);
}

rows_small : AreSmall rows
rows_small =
    (λ w. upper w) ⊳ (λ w. tt) ⊳ (λ w. tt) ⊳ (λ w. tt) ⊳ (λ w. tt) ⊳ (λ w. tt) ⊳ (λ w. tt) ⊳ (λ w. tt) ⊳ (λ w. tt) ⊳ (λ w. tt)
    ⊳ (λ w. tt) ⊳ (λ w. tt) ⊳ (λ w. tt) ⊳ (λ w. tt) ⊳ (λ w. tt) ⊳ (λ w. tt) ⊳ (λ w. tt) ⊳ (λ w. tt) ⊳ (λ w. tt) ⊳ (λ w. tt)
    ⊳ (λ w. tt) ⊳ (λ w. twelve w) ⊳ (λ w. twelve w) ⊳ (λ w. twelve w) ⊳ (λ w. twelve w) ⊳ (λ w. twelve w) ⊳ (λ w. twelve w) ⊳ (λ w. amount w) ⊳ (λ w. amount w) ⊳ (λ w. amount w)
    ⊳ (λ w. tt) ⊳ (λ w. tt) ⊳ (λ w. tt) ⊳ (λ w. tt) ⊳ (λ w. tt) ⊳ (λ w. tt) ⊳ (λ w. tt) ⊳ (λ w. tt) ⊳ (λ w. tt) ⊳ (λ w. tt)
    ⊳ (λ w. twelve w) ⊳ (λ w. amount_32 w) ⊳ (λ w. amount_32 w) ⊳ (λ w. amount_32 w) ⊳ (λ w. tt) ⊳ (λ w. tt) ⊳ (λ w. tt) ⊳ (λ w. tt) ⊳ (λ w. tt) ⊳ (λ w. tt)
    ⊳ (λ w. tt) ⊳ (λ w. tt) ⊳ (λ w. tt) ⊳ (λ w. tt) ⊳ (λ w. tt) ⊳ (λ w. tt) ⊳ (λ w. five w) ⊳ (λ w. five w) ⊳ (λ w. five w) ⊳ (λ w. tt)
    ⊳ (λ w. tt) ⊳ (λ w. tt) ⊳ (λ w. tt) ⊳ (λ w. tt) ⊳ (λ w. tt) ⊳ (λ w. tt) ⊳ (λ w. tt) ⊳ (λ w. tt) ⊳ (λ w. tt) ⊳ (λ w. tt)
    ⊳ (λ w. tt) ⊳ (λ w. tt) ⊳ (λ w. tt) ⊳ (λ w. tt) ⊳ (λ w. tt) ⊳ (λ w. tt) ⊳ (λ w. tt) ⊳ (λ w. tt) ⊳ (λ w. tt) ⊳ (λ w. tt)
    ⊳ (λ w. tt) ⊳ (λ w. tt) ⊳ (λ w. tt) ⊳ (λ w. tt) ⊳ (λ w. tt) ⊳ (λ w. tt) ⊳ (λ w. tt) ⊳ (λ w. tt) ⊳ (λ w. tt) ⊳ (λ w. tt)
    ⊳ (λ w. tt) ⊳ (λ w. tt) ⊳ (λ w. tt) ⊳ (λ w. tt) ⊳ (λ w. tt) ⊳ (λ w. tt) ⊳ (λ w. tt)
    ⊳ no_row

pub instr_small : (word : ℕ) → IsSmallBy (instr_of word)
unfolding instr_of
instr_small word = rows_small.row word
