use Rattle.std.proofs.Common.{ap}
use Rattle.block_device.specs.States.{block_left}
use Rattle.guest_devices.specs.Kept.{device_left}
use Rattle.guest_devices.specs.Kinds.{Block}
use Rattle.guest_devices.proofs.OfKind.{give_is}
use Rattle.guest_devices.proofs.block.give_block.Goals as goal

pub returns : goal.returns
returns c = λ it after before behind.
    give_is Block (block_left c.args.block.now) (block_left c.give.new.self) c.args.reply c.give.ensures it after (ap device_left before)
    (ap device_left behind)
