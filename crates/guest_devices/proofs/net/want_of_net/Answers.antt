use Rattle.std.proofs.Common.{ap}
use Rattle.net_device.specs.States.{net_left}
use Rattle.guest_devices.specs.Kept.{device_left}
use Rattle.guest_devices.specs.Kinds.{Net}
use Rattle.guest_devices.proofs.OfKind.{want_is}
use Rattle.guest_devices.proofs.net.want_of_net.Goals as goal

pub returns : goal.returns
returns c = λ it same. want_is Net (net_left c.args.net.now) c.want.result c.want.ensures it (ap device_left same)
