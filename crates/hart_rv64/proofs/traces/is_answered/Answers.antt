use Rattle.std.proofs.Common.{rules}
use Rattle.hart_rv64.proofs.traces.is_answered.Goals as goal

pub returns-then-is_same_op : goal.returns-then-is_same_op
returns-then-is_same_op c = search rules
