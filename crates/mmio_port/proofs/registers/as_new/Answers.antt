use Rattle.std.proofs.Common.{rules}
use Rattle.mmio_port.proofs.registers.as_new.Goals as goal

pub returns : goal.returns
returns c = search rules
