use Rattle.std.proofs.Common.{rules}
use Rattle.timer_trace.proofs.timer.difference.Goals as goal

pub returns-in-None : goal.returns-in-None
returns-in-None c = search rules
