use Rattle.std.proofs.Common.{rules}
use Rattle.snapshot_merge.proofs.merge.merge_of.Goals as goal

pub returns-then-diff-base : goal.returns-then-diff-base
returns-then-diff-base c = search rules
