use Rattle.std.proofs.Common.{rules}
use Rattle.hart_trace.proofs.looks.look_at_pending.Goals as goal

pub returns-in-Some : goal.returns-in-Some
returns-in-Some c = search rules
