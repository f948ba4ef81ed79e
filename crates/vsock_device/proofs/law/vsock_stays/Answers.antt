use Rattle.std.proofs.Common.{subst, Bool}
use Rattle.device_trace.specs.Script.{Ends}
use Rattle.device_trace.specs.States.{wants}
use Rattle.queue_device.specs.Confined.{IsDeviceAct}
use Rattle.vsock_device.specs.Vsock.{is_host_call, new_vsock, vsock_rules}
use Rattle.vsock_device.proofs.Owes.{owes}
use Rattle.vsock_device.proofs.Untimed.{untimed}
use Rattle.vsock_device.proofs.law.vsock_stays.Goals as goal

pub returns : goal.returns
returns c port pages guest_cid items left leads =
    subst (λ (timed : Bool). IsDeviceAct timed is_host_call port pages (wants vsock_rules left)) (untimed left)
    (c.queue_stays.ensures.acts port pages left owes
    (c.queue_stays.ensures.leads port pages (Ends (new_vsock port pages guest_cid)) left items owes
    (c.queue_stays.ensures.begins port pages) leads))
