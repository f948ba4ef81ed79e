-- The plain program's rows are the table's.
use Rattle.std.proofs.Common.{◌≡◌, ℕ, Bool, true, false, cond, List, [], ◌∷◌, Option, Some, None, map, refl, sym, ap, ◌∙◌, eqb, bit_and}
use Rattle.rv_rows.specs.declared.table.Row.{Row}
use Rattle.rv_rows.specs.declared.form.Form.{Form}
use Rattle.rv_rows.specs.declared.instr.Instr.{Instr}
use Rattle.rv_rows.specs.declared.table.TheConstants.{ROWS}
use Rattle.rv_rows.specs.Table.{Encoding, rows, first_row, instr_of}
use Rattle.rv_rows.specs.Forms.{instr_of_form, first_fit}

-- the row of the table that a row of the program is
abbrev pub encoding_of : Row → Encoding
encoding_of row = record { mask = row.0; matched = row.1; instr = instr_of_form row.2 }

abbrev pub instr_by : ℕ → Option Form → Option Instr
instr_by word None = None
instr_by word (Some form) = Some (instr_of_form form word)

joined : (b : Bool) (form : Form) (word : ℕ) (x : Option Instr) (y : Option Form) → x ≡ instr_by word y →
    cond b (Some (instr_of_form form word)) x ≡ instr_by word (cond b (Some form) y)
joined true form word x y e = refl
joined false form word x y e = e

pub first_row-map : (rs : List Row) (word : ℕ) → first_row (map encoding_of rs) word ≡ instr_by word (first_fit rs word)
first_row-map [] word = refl
first_row-map (row ∷ more) word =
    joined (eqb (bit_and word row.0) row.1) row.2 word _ _ (first_row-map more word)

-- row by row
pub rows_are : map encoding_of ROWS ≡ rows
rows_are = refl

-- so what the first row that fits makes of the word is what the word is
pub found_is : (word : ℕ) (found : Option Form) → first_fit ROWS word ≡ found → instr_by word found ≡ instr_of word
unfolding instr_of
found_is word found e =
    sym (ap (λ (encodings : List Encoding). first_row encodings word) (sym rows_are) ∙ first_row-map ROWS word ∙ ap (instr_by word) e)
