use Rattle.std.proofs.Common.{rules}
use Rattle.place_locks.proofs.kept.write_down.Goals as goal

pub returns : goal.returns
returns c = search rules
