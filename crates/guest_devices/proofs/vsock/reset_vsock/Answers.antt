use Rattle.std.proofs.Common.{ap, refl}
use Rattle.vsock_device.specs.declared.data.VsockChange.TheVariants.{Reset}
use Rattle.vsock_device.specs.States.{vsock_left}
use Rattle.guest_devices.specs.Kept.{device_left}
use Rattle.guest_devices.specs.Kinds.{Vsock}
use Rattle.guest_devices.proofs.OfKind.{reset_is}
use Rattle.guest_devices.proofs.vsock.reset_vsock.Goals as goal

pub returns : goal.returns
returns c = λ it after before behind.
    reset_is Vsock (vsock_left c.args.vsock.now) (vsock_left c.change.new.self) Reset c.change.ensures refl it after (ap device_left before)
    (ap device_left behind)
