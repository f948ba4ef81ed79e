use Rattle.flat_snapshot.proofs.CarriedAlike.{carried_alike}
use Rattle.flat_snapshot.proofs.law.goes_on_alike.Goals as goal

pub returns : goal.returns
returns c = carried_alike
