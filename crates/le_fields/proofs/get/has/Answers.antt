use Rattle.std.proofs.Common.{rules}
use Rattle.le_fields.proofs.get.has.Goals as goal

pub returns-then-width-bytes : goal.returns-then-width-bytes
returns-then-width-bytes c = search rules
