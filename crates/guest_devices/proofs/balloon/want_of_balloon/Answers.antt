use Rattle.std.proofs.Common.{ap}
use Rattle.balloon_device.specs.States.{balloon_left}
use Rattle.guest_devices.specs.Kept.{device_left}
use Rattle.guest_devices.specs.Kinds.{Balloon}
use Rattle.guest_devices.proofs.OfKind.{want_is}
use Rattle.guest_devices.proofs.balloon.want_of_balloon.Goals as goal

pub returns : goal.returns
returns c = λ it same. want_is Balloon (balloon_left c.args.balloon.now) c.want.result c.want.ensures it (ap device_left same)
