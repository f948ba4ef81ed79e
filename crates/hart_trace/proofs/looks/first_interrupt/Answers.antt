use Rattle.std.proofs.Common.{rules}
use Rattle.hart_trace.proofs.looks.first_interrupt.Goals as goal

pub returns-then-bits-eq1 : goal.returns-then-bits-eq1
returns-then-bits-eq1 c = search rules
