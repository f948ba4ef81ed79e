-- Each change is of another kind.
use Rattle.std.proofs.Common.{ap}
use Rattle.entropy_device.specs.States.{entropy_left}
use Rattle.guest_devices.specs.Kept.{device_left}
use Rattle.guest_devices.specs.Kinds.{Entropy}
use Rattle.guest_devices.proofs.OfKind.{other_is}
use Rattle.guest_devices.proofs.Owed.{entropy_unchanged}
use Rattle.guest_devices.proofs.entropy.tell_entropy.Goals as goal

pub returns : goal.returns
returns c = λ it after before behind.
    other_is Entropy (entropy_left c.args.entropy.now) c.args.change (entropy_unchanged c.args.change) it after (ap device_left before)
    (ap device_left behind)
