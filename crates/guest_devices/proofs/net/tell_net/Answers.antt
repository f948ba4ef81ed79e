-- A change of a network device, or of another kind.
use Rattle.std.proofs.Common.{ap}
use Rattle.net_device.specs.States.{net_left}
use Rattle.guest_devices.specs.declared.change.DeviceChange.{DeviceChange}
use Rattle.guest_devices.specs.Kept.{device_left}
use Rattle.guest_devices.specs.Kinds.{Net, change_for}
use Rattle.guest_devices.proofs.OfKind.{other_is, tell_is}
use Rattle.guest_devices.proofs.net.tell_net.Goals as goal

pub returns-in-Net : goal.returns-in-Net
returns-in-Net c = λ it after before behind.
    tell_is Net (net_left c.args.net.now) (net_left c.change.new.self) c.in-Net.change c.change.ensures c.args.change
    (ap (λ (told : DeviceChange). change_for told Net) c.in-Net.is) it after (ap device_left before) (ap device_left behind)

pub returns-in-Block : goal.returns-in-Block
returns-in-Block c = λ it after before behind.
    other_is Net (net_left c.args.net.now) c.args.change (ap (λ (told : DeviceChange). change_for told Net) c.in-Block.is) it after
    (ap device_left before) (ap device_left behind)

pub returns-in-Balloon : goal.returns-in-Balloon
returns-in-Balloon c = λ it after before behind.
    other_is Net (net_left c.args.net.now) c.args.change (ap (λ (told : DeviceChange). change_for told Net) c.in-Balloon.is) it after
    (ap device_left before) (ap device_left behind)
