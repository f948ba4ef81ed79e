use Rattle.flat_guest.proofs.Alike.{same_step, same_steps}
use Rattle.flat_guest.proofs.law.same_events.Goals as goal

pub returns-clause-one : goal.returns-clause-one
returns-clause-one c = same_step

pub returns-clause-several : goal.returns-clause-several
returns-clause-several c = same_steps
