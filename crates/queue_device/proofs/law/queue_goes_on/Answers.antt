use Rattle.queue_device.proofs.GoesOn.{change_on, new_on, reply_on}
use Rattle.queue_device.proofs.law.queue_goes_on.Goals as goal

pub returns-clause-begins : goal.returns-clause-begins
returns-clause-begins g call sized port pages e small kind owes fine =
    new_on g.T.Kind.service g.T.Kind.changing g.T.Kind.hand g.T.Kind.is_work g.T.Kind.IsFine sized g.T.Kind.times g.T.Kind.calls
    port pages small kind owes e fine

pub returns-clause-reply : goal.returns-clause-reply
returns-clause-reply g call sized port pages t reply small kind owes kept fit =
    reply_on g.T.Kind.service g.T.Kind.changing g.T.Kind.hand g.T.Kind.is_work g.T.Kind.IsFine sized g.T.Kind.times g.T.Kind.calls
    port pages small kind owes t reply kept fit

pub returns-clause-change : goal.returns-clause-change
returns-clause-change g call sized port pages t c small kind owes kept changes =
    change_on g.T.Kind.service g.T.Kind.changing g.T.Kind.hand g.T.Kind.is_work g.T.Kind.IsFine sized g.T.Kind.times g.T.Kind.calls
    port pages small kind owes t c kept changes
