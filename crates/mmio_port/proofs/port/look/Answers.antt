use Rattle.std.proofs.Common.{rules}
use Rattle.mmio_port.proofs.port.look.Goals as goal

pub returns-then-state-clause-reply : goal.returns-then-state-clause-reply
returns-then-state-clause-reply c = search rules
