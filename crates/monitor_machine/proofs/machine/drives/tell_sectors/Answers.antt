-- The device is told of the change that another number of sectors is.
use Rattle.std.proofs.Common.{subst}
use Rattle.guest_devices.specs.declared.change.DeviceChange.{DeviceChange}
use Rattle.flat_machine.specs.Requests.{shows_by}
use Rattle.monitor_machine.specs.Telling.{TellsDevice}
use Rattle.monitor_machine.proofs.machine.drives.tell_sectors.Goals as goal

pub returns-clause-resizes : goal.returns-clause-resizes
returns-clause-resizes c =
    subst (λ (change : DeviceChange). TellsDevice c.args.device change (shows_by change) c.args.guest.now c.tell_device.new.guest)
    c.of_sectors.ensures c.tell_device.ensures
