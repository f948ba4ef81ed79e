use Rattle.std.proofs.Common.{rules}
use Rattle.timer_trace.proofs.timer.Timer.stepped.Goals as goal

pub returns-in-None-Word : goal.returns-in-None-Word
returns-in-None-Word c = search rules
