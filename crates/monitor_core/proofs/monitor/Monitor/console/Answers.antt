use Rattle.monitor_core.proofs.Items.{beside}
use Rattle.monitor_core.proofs.monitor.Monitor.console.Goals as goal

pub returns : goal.returns
returns c = λ known m is. c.console.ensures known m (beside is)
