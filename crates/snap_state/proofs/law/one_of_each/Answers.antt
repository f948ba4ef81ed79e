use Rattle.std.proofs.Common.{refl}
use Rattle.snap_harts.proofs.Harts.{hart_back}
use Rattle.snap_state.proofs.Parts.{hart_again, board_back}
use Rattle.snap_state.proofs.law.one_of_each.Goals as goal

pub returns : goal.returns
returns c = record { hart = hart_back; copied = hart_again; board = board_back; kept = λ now s. refl }
