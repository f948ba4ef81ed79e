use Rattle.hart_trace.proofs.Leads.{leads_next}
use Rattle.hart_trace.proofs.Traces.{wants_only, hart_prefix, hart_continues, some_hart}
use Rattle.hart_trace.proofs.OneHart.{one_hart}
use Rattle.hart_trace.proofs.law.hart_follows.Goals as goal

pub returns-clause-prefix : goal.returns-clause-prefix
returns-clause-prefix c = hart_prefix

pub returns-clause-some : goal.returns-clause-some
returns-clause-some c = some_hart

pub returns-clause-wants : goal.returns-clause-wants
returns-clause-wants c = hart_continues

pub returns-clause-goes_on : goal.returns-clause-goes_on
returns-clause-goes_on c = leads_next

pub returns-clause-only : goal.returns-clause-only
returns-clause-only c = wants_only

pub returns-clause-one : goal.returns-clause-one
returns-clause-one c = one_hart
