use Rattle.hart_trace.proofs.Keeping.{hart_kept, hart_small, start_kept, stopped_kept}
use Rattle.hart_trace.proofs.law.hart_kept.Goals as goal

pub returns-clause-starts : goal.returns-clause-starts
returns-clause-starts c = start_kept

pub returns-clause-stopped : goal.returns-clause-stopped
returns-clause-stopped c = stopped_kept

pub returns-clause-stays : goal.returns-clause-stays
returns-clause-stays c = hart_kept

pub returns-clause-asks : goal.returns-clause-asks
returns-clause-asks c = hart_small
