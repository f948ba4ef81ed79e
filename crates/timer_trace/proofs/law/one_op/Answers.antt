use Rattle.timer_trace.proofs.Traces.{one_op, some_op, any_reply}
use Rattle.timer_trace.proofs.law.one_op.Goals as goal

pub returns-clause-one : goal.returns-clause-one
returns-clause-one c = one_op

pub returns-clause-some : goal.returns-clause-some
returns-clause-some c = some_op

pub returns-clause-any : goal.returns-clause-any
returns-clause-any c = any_reply
