use Rattle.std.proofs.Common.{rules}
use Rattle.turn_table.proofs.acting.act_on.Goals as goal

pub returns-clause-one : goal.returns-clause-one
returns-clause-one g c = search rules
