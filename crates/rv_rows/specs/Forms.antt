-- The rows as the plain program has them: a form in place of a function of the word.
use Rattle.std.specs.Prelude.{ℕ, ◌==◌, if◌then◌else◌, List, [], ◌∷◌, Option, Some, None, bit_and}
use Rattle.rv_rows.specs.declared.instr.Instr.{Instr}
use Rattle.rv_rows.specs.declared.instr.Instr.TheVariants.{Lui, Auipc, Jal, Jalr, Branch, Load, Store, AluImm, Alu, MulDiv, StoreConditional, Amo}
use Rattle.rv_rows.specs.declared.form.Form.{Form}
use Rattle.rv_rows.specs.declared.table.Row.{Row}
use Rattle.rv_rows.specs.Table.{r_type, i_type, s_type, b_type, u_type, j_type, shift, word_shift, lr_type, csr_type, csr_imm_type, plain}

-- the instruction that a word of this form is
abbrev pub instr_of_form : Form → ℕ → Instr
instr_of_form Form.Lui = u_type Lui
instr_of_form Form.Auipc = u_type Auipc
instr_of_form Form.Jal = j_type Jal
instr_of_form Form.Jalr = i_type Jalr
instr_of_form (Form.Branch condition) = b_type (Branch condition)
instr_of_form (Form.Load kind) = i_type (Load kind)
instr_of_form (Form.Store width) = s_type (Store width)
instr_of_form (Form.AluImmediate op) = i_type (AluImm op)
instr_of_form (Form.Shift op) = shift (AluImm op)
instr_of_form (Form.WordShift op) = word_shift (AluImm op)
instr_of_form (Form.Alu op) = r_type (Alu op)
instr_of_form (Form.MulDiv op) = r_type (MulDiv op)
instr_of_form (Form.LoadReserved wide) = lr_type wide
instr_of_form (Form.StoreConditional wide) = r_type (StoreConditional wide)
instr_of_form (Form.Amo kind wide) = r_type (Amo kind wide)
instr_of_form (Form.CsrRegister op) = csr_type op
instr_of_form (Form.CsrImmediate op) = csr_imm_type op
instr_of_form (Form.Plain instr) = plain instr

-- the form of the first row that fits
abbrev pub first_fit : List Row → ℕ → Option Form
first_fit [] word = None
first_fit (row ∷ more) word = if bit_and word row.0 == row.1 then Some row.2 else first_fit more word
