use Rattle.flat_snapshot.proofs.Finds.{finds}
use Rattle.flat_snapshot.proofs.GoesOn.{carried_sound}
use Rattle.flat_snapshot.proofs.law.goes_on.Goals as goal

pub returns-clause-sound : goal.returns-clause-sound
returns-clause-sound c = carried_sound

pub returns-clause-found : goal.returns-clause-found
returns-clause-found c = finds
