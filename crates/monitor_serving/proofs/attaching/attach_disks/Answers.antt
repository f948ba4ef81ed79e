use Rattle.std.proofs.Common.{ap}
use Rattle.monitor_machine.specs.Kinds.{disks}
use Rattle.monitor_running.specs.Objects.{TurnKnown}
use Rattle.monitor_serving.proofs.AllNamed.{lent_attached}
use Rattle.monitor_serving.proofs.attaching.attach_disks.Goals as goal

pub returns-clause-attached : goal.returns-clause-attached
returns-clause-attached g c = λ files m is.
    lent_attached disks m _ _ _ _ c.disk.ensures.value
    (ap (λ (k : TurnKnown). k.host.devices.disk) (g.met.W.TurnObjects.disk_set c.args.with.now c.attach_disks.new.disk))
    (c.attach_disks.ensures.attached files m is)
