use Rattle.std.proofs.Common.{rules}
use Rattle.snapshot_merge.proofs.merge.new_merge.Goals as goal

pub returns-then-not-is_same : goal.returns-then-not-is_same
returns-then-not-is_same c = search rules
