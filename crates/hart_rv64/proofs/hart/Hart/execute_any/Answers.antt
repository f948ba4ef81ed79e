use Rattle.std.proofs.Common.{rules}
use Rattle.hart_rv64.proofs.hart.Hart.execute_any.Goals as goal

pub returns-in-Some : goal.returns-in-Some
returns-in-Some c = search rules
