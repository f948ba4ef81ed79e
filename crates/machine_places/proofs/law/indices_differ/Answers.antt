use Rattle.machine_places.proofs.Indexing.{are_apart}
use Rattle.machine_places.proofs.law.indices_differ.Goals as goal

pub returns : goal.returns
returns c = are_apart
