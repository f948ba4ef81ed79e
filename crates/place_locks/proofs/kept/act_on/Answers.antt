use Rattle.std.proofs.Common.{rules}
use Rattle.place_locks.proofs.kept.act_on.Goals as goal

pub returns-clause-entry : goal.returns-clause-entry
returns-clause-entry c = search rules
