use Rattle.queue_device.proofs.KeptStays.{state_stays}
use Rattle.queue_device.proofs.law.queue_kept.Goals as goal

pub returns : goal.returns
returns g call sized p r e k kind owes is =
    state_stays g.T.Kind.service g.T.Kind.changing g.T.Kind.hand g.T.Kind.is_work g.T.Kind.IsFine sized g.T.Kind.times
    g.T.Kind.calls p r e k kind owes is
