use Rattle.std.proofs.Common.{◌≡◌, drop}
use Rattle.rv_rows.specs.Forms.{first_fit}
use Rattle.rv_rows.proofs.table.first.Given as goal

abbrev pub invariant-loop-row : goal.invariant-loop-row
invariant-loop-row l = first_fit l.rows l.word ≡ first_fit (drop l.row-index l.rows) l.word
