-- A change of a balloon, or of another kind.
use Rattle.std.proofs.Common.{ap}
use Rattle.balloon_device.specs.States.{balloon_left}
use Rattle.guest_devices.specs.declared.change.DeviceChange.{DeviceChange}
use Rattle.guest_devices.specs.Kept.{device_left}
use Rattle.guest_devices.specs.Kinds.{Balloon, change_for}
use Rattle.guest_devices.proofs.OfKind.{other_is, tell_is}
use Rattle.guest_devices.proofs.balloon.tell_balloon.Goals as goal

pub returns-in-Balloon : goal.returns-in-Balloon
returns-in-Balloon c = λ it after before behind.
    tell_is Balloon (balloon_left c.args.balloon.now) (balloon_left c.change.new.self) c.in-Balloon.change c.change.ensures c.args.change
    (ap (λ (told : DeviceChange). change_for told Balloon) c.in-Balloon.is) it after (ap device_left before) (ap device_left behind)

pub returns-in-Block : goal.returns-in-Block
returns-in-Block c = λ it after before behind.
    other_is Balloon (balloon_left c.args.balloon.now) c.args.change (ap (λ (told : DeviceChange). change_for told Balloon) c.in-Block.is) it after
    (ap device_left before) (ap device_left behind)

pub returns-in-Net : goal.returns-in-Net
returns-in-Net c = λ it after before behind.
    other_is Balloon (balloon_left c.args.balloon.now) c.args.change (ap (λ (told : DeviceChange). change_for told Balloon) c.in-Net.is) it after
    (ap device_left before) (ap device_left behind)
