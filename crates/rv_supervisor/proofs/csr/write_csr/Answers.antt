use Rattle.std.proofs.Common.{rules}
use Rattle.rv_supervisor.proofs.csr.write_csr.Goals as goal

pub returns-in-Sstatus : goal.returns-in-Sstatus
returns-in-Sstatus c = search rules
