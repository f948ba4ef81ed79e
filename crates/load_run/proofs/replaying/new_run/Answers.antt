use Rattle.load_run.proofs.Ends.{new_by}
use Rattle.load_run.proofs.replaying.new_run.Goals as goal

pub returns-clause-monitor : goal.returns-clause-monitor
returns-clause-monitor c = new_by _ _ c.in_ok-id.ensures c.in_ok-run.ensures.monitor
