use Rattle.hart_trace.proofs.Shapes.{hart_shaped, start_shaped, stopped_shaped}
use Rattle.hart_trace.proofs.law.hart_shaped.Goals as goal

pub returns-clause-starts : goal.returns-clause-starts
returns-clause-starts c = start_shaped

pub returns-clause-stopped : goal.returns-clause-stopped
returns-clause-stopped c = stopped_shaped

pub returns-clause-stays : goal.returns-clause-stays
returns-clause-stays c = hart_shaped
