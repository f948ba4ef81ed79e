use Rattle.std.proofs.Common.{rules}
use Rattle.hart_rv64.proofs.hart.Hart.fetched.Goals as goal

pub returns-in-Bytes : goal.returns-in-Bytes
returns-in-Bytes c = search rules
