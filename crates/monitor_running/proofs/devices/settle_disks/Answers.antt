use Rattle.monitor_running.proofs.Lent.{disk_settled}
use Rattle.monitor_running.proofs.devices.settle_disks.Goals as goal

pub returns : goal.returns
returns g c =
    disk_settled (g.W.TurnObjects.known c.args.with.now) _ _ _ c.disk.ensures.value
    (g.met.W.TurnObjects.disk_set c.args.with.now c.settle.new.self) c.settle.ensures
