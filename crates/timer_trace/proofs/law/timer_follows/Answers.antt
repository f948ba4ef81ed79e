use Rattle.timer_trace.proofs.Leads.{leads_next, one_timer}
use Rattle.timer_trace.proofs.Traces.{leads_start, wants_only, timer_prefix, timer_continues, some_timer}
use Rattle.timer_trace.proofs.law.timer_follows.Goals as goal

pub returns-clause-begins : goal.returns-clause-begins
returns-clause-begins c = leads_start

pub returns-clause-prefix : goal.returns-clause-prefix
returns-clause-prefix c = timer_prefix

pub returns-clause-some : goal.returns-clause-some
returns-clause-some c = some_timer

pub returns-clause-wants : goal.returns-clause-wants
returns-clause-wants c = timer_continues

pub returns-clause-goes_on : goal.returns-clause-goes_on
returns-clause-goes_on c = leads_next

pub returns-clause-only : goal.returns-clause-only
returns-clause-only c = wants_only

pub returns-clause-one : goal.returns-clause-one
returns-clause-one c = one_timer
