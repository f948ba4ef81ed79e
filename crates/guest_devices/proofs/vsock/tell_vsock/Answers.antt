-- Each change is of another kind.
use Rattle.std.proofs.Common.{ap}
use Rattle.vsock_device.specs.States.{vsock_left}
use Rattle.guest_devices.specs.Kept.{device_left}
use Rattle.guest_devices.specs.Kinds.{Vsock}
use Rattle.guest_devices.proofs.OfKind.{other_is}
use Rattle.guest_devices.proofs.Owed.{vsock_unchanged}
use Rattle.guest_devices.proofs.vsock.tell_vsock.Goals as goal

pub returns : goal.returns
returns c = λ it after before behind.
    other_is Vsock (vsock_left c.args.vsock.now) c.args.change (vsock_unchanged c.args.change) it after (ap device_left before)
    (ap device_left behind)
