use Rattle.monitor_core.proofs.Items.{beside}
use Rattle.monitor_core.proofs.monitor.Monitor.is_off.Goals as goal

pub returns : goal.returns
returns c = λ known m is. c.is_off.ensures known m (beside is)
