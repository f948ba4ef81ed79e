use Rattle.std.proofs.Common.{rules}
use Rattle.rv_supervisor.proofs.ends.return_from_trap.Goals as goal

pub returns : goal.returns
returns c = search rules
