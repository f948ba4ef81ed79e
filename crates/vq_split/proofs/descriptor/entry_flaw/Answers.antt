use Rattle.std.proofs.Common.{rules}
use Rattle.vq_split.proofs.descriptor.entry_flaw.Goals as goal

pub returns-then-is_indirect : goal.returns-then-is_indirect
returns-then-is_indirect c = search rules
