use Rattle.std.proofs.Common.{ap}
use Rattle.entropy_device.specs.States.{entropy_left}
use Rattle.guest_devices.specs.Kept.{device_left}
use Rattle.guest_devices.specs.Kinds.{Entropy}
use Rattle.guest_devices.proofs.OfKind.{want_is}
use Rattle.guest_devices.proofs.entropy.want_of_entropy.Goals as goal

pub returns : goal.returns
returns c = λ it same. want_is Entropy (entropy_left c.args.entropy.now) c.want.result c.want.ensures it (ap device_left same)
