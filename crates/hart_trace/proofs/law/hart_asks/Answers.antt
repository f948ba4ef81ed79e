use Rattle.std.proofs.Common.{refl}
use Rattle.hart_trace.proofs.Asks.{never_host, never_port, hart_asks}
use Rattle.hart_trace.proofs.Naturals.{hart_natural, hart_aligned}
use Rattle.hart_trace.proofs.law.hart_asks.Goals as goal

pub returns-clause-never_out : goal.returns-clause-never_out
returns-clause-never_out c = never_host

pub returns-clause-never_port : goal.returns-clause-never_port
returns-clause-never_port c = never_port

pub returns-clause-asks : goal.returns-clause-asks
returns-clause-asks c = hart_asks

pub returns-clause-natural : goal.returns-clause-natural
returns-clause-natural c = hart_natural

pub returns-clause-starts : goal.returns-clause-starts
returns-clause-starts c = λ pc first second is. (is, refl, refl)

pub returns-clause-aligned : goal.returns-clause-aligned
returns-clause-aligned c = hart_aligned
