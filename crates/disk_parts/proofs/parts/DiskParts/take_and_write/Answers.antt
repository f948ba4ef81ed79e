use Rattle.std.proofs.Common.{rules}
use Rattle.disk_parts.proofs.parts.DiskParts.take_and_write.Goals as goal

pub returns-else-is_last : goal.returns-else-is_last
returns-else-is_last c = search rules
