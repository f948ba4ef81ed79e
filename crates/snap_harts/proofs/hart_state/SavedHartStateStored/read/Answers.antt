use Rattle.snap_harts.proofs.Fits.{hart_fits}
use Rattle.std.proofs.Common.{rules}
use Rattle.file_format.specs.Kinds.{byte}
use Rattle.snap_harts.specs.HartStates.{hart_state}
use Rattle.snap_harts.proofs.hart_state.SavedHartStateStored.read.Goals as goal

pub returns : goal.returns
unfolding hart_state byte
returns c = search rules
