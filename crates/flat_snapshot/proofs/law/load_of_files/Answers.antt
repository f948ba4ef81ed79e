use Rattle.flat_snapshot.proofs.Loaded.{found_in}
use Rattle.flat_snapshot.proofs.law.load_of_files.Goals as goal

pub returns : goal.returns
returns c = found_in
