use Rattle.std.proofs.Common.{None, Some, sym, ◌∙◌}
use Rattle.rv_rows.proofs.Rows.{found_is}
use Rattle.rv_rows.proofs.table.instr_of.Goals as goal

pub returns-in-Some : goal.returns-in-Some
returns-in-Some c = rw c.instr.ensures (found_is c.args.word (Some c.in-Some.form) (sym c.first.ensures ∙ c.in-Some.is))

pub returns-in-None : goal.returns-in-None
returns-in-None c = found_is c.args.word None (sym c.first.ensures ∙ c.in-None.is)
