use Rattle.std.proofs.Common.{rules}
use Rattle.dev_core.proofs.looks.is_workable.Goals as goal

pub returns-then-status-eq0 : goal.returns-then-status-eq0
returns-then-status-eq0 c = search rules
