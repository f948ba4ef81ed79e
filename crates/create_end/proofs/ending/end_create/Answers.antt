use Rattle.std.proofs.Common.{rules}
use Rattle.create_end.proofs.ending.end_create.Goals as goal

pub returns-else-is_ok-clause-failed : goal.returns-else-is_ok-clause-failed
returns-else-is_ok-clause-failed c = search rules
