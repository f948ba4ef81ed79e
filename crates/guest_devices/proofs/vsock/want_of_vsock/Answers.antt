use Rattle.std.proofs.Common.{ap}
use Rattle.vsock_device.specs.States.{vsock_left}
use Rattle.guest_devices.specs.Kept.{device_left}
use Rattle.guest_devices.specs.Kinds.{Vsock}
use Rattle.guest_devices.proofs.OfKind.{want_is}
use Rattle.guest_devices.proofs.vsock.want_of_vsock.Goals as goal

pub returns : goal.returns
returns c = λ it same. want_is Vsock (vsock_left c.args.vsock.now) c.want.result c.want.ensures it (ap device_left same)
