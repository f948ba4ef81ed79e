use Rattle.snap_state.proofs.Copies.{one, one_file, opened, known}
use Rattle.snap_state.proofs.law.one_copy.Goals as goal

pub returns : goal.returns
returns c = record { one = one; file = one_file; opened = opened; known = known }
