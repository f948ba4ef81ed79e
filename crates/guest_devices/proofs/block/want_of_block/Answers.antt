use Rattle.std.proofs.Common.{ap}
use Rattle.block_device.specs.States.{block_left}
use Rattle.guest_devices.specs.Kept.{device_left}
use Rattle.guest_devices.specs.Kinds.{Block}
use Rattle.guest_devices.proofs.OfKind.{want_is}
use Rattle.guest_devices.proofs.block.want_of_block.Goals as goal

pub returns : goal.returns
returns c = λ it same. want_is Block (block_left c.args.block.now) c.want.result c.want.ensures it (ap device_left same)
