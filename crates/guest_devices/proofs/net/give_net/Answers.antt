use Rattle.std.proofs.Common.{ap}
use Rattle.net_device.specs.States.{net_left}
use Rattle.guest_devices.specs.Kept.{device_left}
use Rattle.guest_devices.specs.Kinds.{Net}
use Rattle.guest_devices.proofs.OfKind.{give_is}
use Rattle.guest_devices.proofs.net.give_net.Goals as goal

pub returns : goal.returns
returns c = λ it after before behind.
    give_is Net (net_left c.args.net.now) (net_left c.give.new.self) c.args.reply c.give.ensures it after (ap device_left before)
    (ap device_left behind)
