use Rattle.std.proofs.Common.{ap}
use Rattle.monitor_machine.specs.Kinds.{vsocks}
use Rattle.monitor_running.specs.Objects.{TurnKnown}
use Rattle.monitor_serving.proofs.AllNamed.{lent_attached}
use Rattle.monitor_serving.proofs.attaching.attach_vsock.Goals as goal

pub returns-clause-attached : goal.returns-clause-attached
returns-clause-attached g c = λ files m is.
    lent_attached vsocks m _ _ _ _ c.vsock.ensures.value
    (ap (λ (k : TurnKnown). k.host.devices.vsock) (g.met.W.TurnObjects.vsock_set c.args.with.now c.attach_vsock.new.vsock))
    (c.attach_vsock.ensures.attached files m is)
