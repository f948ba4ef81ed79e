use Rattle.std.proofs.Common.{ap}
use Rattle.vsock_device.specs.States.{vsock_left}
use Rattle.guest_devices.specs.Kept.{device_left}
use Rattle.guest_devices.specs.Kinds.{Vsock}
use Rattle.guest_devices.proofs.OfKind.{give_is}
use Rattle.guest_devices.proofs.vsock.give_vsock.Goals as goal

pub returns : goal.returns
returns c = λ it after before behind.
    give_is Vsock (vsock_left c.args.vsock.now) (vsock_left c.give.new.self) c.args.reply c.give.ensures it after (ap device_left before)
    (ap device_left behind)
