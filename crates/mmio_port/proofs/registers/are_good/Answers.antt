use Rattle.std.proofs.Common.{rules}
use Rattle.mmio_port.proofs.registers.are_good.Goals as goal

pub returns-then-has_bits : goal.returns-then-has_bits
returns-then-has_bits c = search rules
