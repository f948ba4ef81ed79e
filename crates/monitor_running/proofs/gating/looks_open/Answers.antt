use Rattle.monitor_running.proofs.Passing.{passed_looked}
use Rattle.monitor_running.proofs.gating.looks_open.Goals as goal

pub returns : goal.returns
returns g c = passed_looked _ _ c.is_open.result _ _ c.is_open.ensures
