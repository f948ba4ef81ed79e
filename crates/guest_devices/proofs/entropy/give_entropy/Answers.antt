use Rattle.std.proofs.Common.{ap}
use Rattle.entropy_device.specs.States.{entropy_left}
use Rattle.guest_devices.specs.Kept.{device_left}
use Rattle.guest_devices.specs.Kinds.{Entropy}
use Rattle.guest_devices.proofs.OfKind.{give_is}
use Rattle.guest_devices.proofs.entropy.give_entropy.Goals as goal

pub returns : goal.returns
returns c = λ it after before behind.
    give_is Entropy (entropy_left c.args.entropy.now) (entropy_left c.give.new.self) c.args.reply c.give.ensures it after (ap device_left before)
    (ap device_left behind)
