-- A change of a block device, or of another kind.
use Rattle.std.proofs.Common.{ap}
use Rattle.block_device.specs.States.{block_left}
use Rattle.guest_devices.specs.declared.change.DeviceChange.{DeviceChange}
use Rattle.guest_devices.specs.Kept.{device_left}
use Rattle.guest_devices.specs.Kinds.{Block, change_for}
use Rattle.guest_devices.proofs.OfKind.{other_is, tell_is}
use Rattle.guest_devices.proofs.block.tell_block.Goals as goal

pub returns-in-Block : goal.returns-in-Block
returns-in-Block c = λ it after before behind.
    tell_is Block (block_left c.args.block.now) (block_left c.change_block.new.block) c.in-Block.change c.change_block.ensures c.args.change
    (ap (λ (told : DeviceChange). change_for told Block) c.in-Block.is) it after (ap device_left before) (ap device_left behind)

pub returns-in-Net : goal.returns-in-Net
returns-in-Net c = λ it after before behind.
    other_is Block (block_left c.args.block.now) c.args.change (ap (λ (told : DeviceChange). change_for told Block) c.in-Net.is) it after
    (ap device_left before) (ap device_left behind)

pub returns-in-Balloon : goal.returns-in-Balloon
returns-in-Balloon c = λ it after before behind.
    other_is Block (block_left c.args.block.now) c.args.change (ap (λ (told : DeviceChange). change_for told Block) c.in-Balloon.is) it after
    (ap device_left before) (ap device_left behind)
