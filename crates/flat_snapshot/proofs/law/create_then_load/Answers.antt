use Rattle.flat_snapshot.proofs.Loaded.{found_again}
use Rattle.flat_snapshot.proofs.law.create_then_load.Goals as goal

pub returns : goal.returns
returns c = found_again
