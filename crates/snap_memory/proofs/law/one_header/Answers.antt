use Rattle.snap_memory.proofs.Fronts.{one, opened, known}
use Rattle.snap_memory.proofs.law.one_header.Goals as goal

pub returns : goal.returns
returns c = record { one = one; opened = opened; known = known }
