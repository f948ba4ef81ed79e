use Rattle.queue_device.proofs.KeptStays.{state_one}
use Rattle.queue_device.proofs.law.queue_one.Goals as goal

pub returns : goal.returns
returns g call p q r t e f k h is at same =
    state_one g.T.Kind.service g.T.Kind.times g.T.Kind.hand g.T.Kind.is_work p q r t e f k h is at same
