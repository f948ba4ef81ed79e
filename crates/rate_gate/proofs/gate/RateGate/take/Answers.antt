use Rattle.std.proofs.Common.{rules}
use Rattle.rate_gate.proofs.gate.RateGate.take.Goals as goal

pub returns-then-allows-2-clause-go : goal.returns-then-allows-2-clause-go
returns-then-allows-2-clause-go c = search rules
