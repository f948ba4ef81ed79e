use Rattle.std.proofs.Common.{ap}
use Rattle.balloon_device.specs.States.{balloon_left}
use Rattle.guest_devices.specs.Kept.{device_left}
use Rattle.guest_devices.specs.Kinds.{Balloon}
use Rattle.guest_devices.proofs.OfKind.{give_is}
use Rattle.guest_devices.proofs.balloon.give_balloon.Goals as goal

pub returns : goal.returns
returns c = λ it after before behind.
    give_is Balloon (balloon_left c.args.balloon.now) (balloon_left c.give.new.self) c.args.reply c.give.ensures it after (ap device_left before)
    (ap device_left behind)
