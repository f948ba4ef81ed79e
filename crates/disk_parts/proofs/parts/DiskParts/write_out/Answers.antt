use Rattle.std.proofs.Common.{rules}
use Rattle.disk_parts.proofs.parts.DiskParts.write_out.Goals as goal

pub returns-in-Err-clause-ok : goal.returns-in-Err-clause-ok
returns-in-Err-clause-ok c = search rules
