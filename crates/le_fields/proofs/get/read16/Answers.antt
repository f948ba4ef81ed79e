use Rattle.std.proofs.Common.{rules}
use Rattle.le_fields.proofs.get.read16.Goals as goal

pub bounds-bytes-at : goal.bounds-bytes-at
bounds-bytes-at c = search rules
