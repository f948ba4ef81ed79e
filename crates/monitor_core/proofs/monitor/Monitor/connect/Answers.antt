use Rattle.monitor_core.proofs.Hears.{connected}
use Rattle.monitor_core.proofs.monitor.Monitor.connect.Goals as goal

pub returns-clause-goes : goal.returns-clause-goes
returns-clause-goes c = λ known m is. connected c.args.self.now known m c.restart.new.self c.restart.ensures is
