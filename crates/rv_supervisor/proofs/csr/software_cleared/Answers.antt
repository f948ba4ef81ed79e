use Rattle.std.proofs.Common.{rules}
use Rattle.rv_supervisor.proofs.csr.software_cleared.Goals as goal

pub returns-in-Read : goal.returns-in-Read
returns-in-Read c = search rules
