use Rattle.monitor_core.proofs.Items.{beside, with_front}
use Rattle.monitor_core.proofs.monitor.Monitor.set_lineage.Goals as goal

pub returns-clause-goes : goal.returns-clause-goes
returns-clause-goes c = λ known m is.
    with_front c.set_lineage.new.self c.args.self.now known _ (c.set_lineage.ensures known m (beside is)) is.own.connection_is
