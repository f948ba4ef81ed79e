use Rattle.queue_device.proofs.SmallActs.{wants_small}
use Rattle.queue_device.proofs.law.queue_writes.Goals as goal

pub returns : goal.returns
returns g call sized port pages t small kind owes asks acts kept =
    wants_small g.T.Kind.service g.T.Kind.changing g.T.Kind.hand g.T.Kind.is_work g.T.Kind.IsFine sized g.T.Kind.times g.T.Kind.calls
    port pages small kind owes asks acts t kept
