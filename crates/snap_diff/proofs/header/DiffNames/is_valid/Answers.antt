use Rattle.std.proofs.Common.{rules}
use Rattle.snap_diff.proofs.header.DiffNames.is_valid.Goals as goal

pub returns-then-is_numbered-2 : goal.returns-then-is_numbered-2
returns-then-is_numbered-2 c = search rules
