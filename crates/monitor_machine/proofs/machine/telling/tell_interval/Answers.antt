use Rattle.std.proofs.Common.{ℕ, subst, Option}
use Rattle.api_calls.specs.declared.balloon.Balloon.{Balloon}
use Rattle.vm_config.specs.Devices.{balloon_device}
use Rattle.guest_devices.specs.declared.change.DeviceChange.{DeviceChange}
use Rattle.flat_machine.specs.Balloon.{interval_told}
use Rattle.flat_machine.specs.Requests.{shows_by}
use Rattle.monitor_machine.specs.Telling.{Retimes, TellsDevice}
use Rattle.monitor_machine.proofs.machine.telling.tell_interval.Goals as goal

pub returns : goal.returns
returns c =
    let told : DeviceChange = interval_told c.in-Some.balloon in
    subst (λ (o : Option Balloon). Retimes o (balloon_device c.args.config.now) c.args.guest.now c.tell_device.new.guest) c.in-Some.ensures.is
    (subst (λ (n : Option ℕ). TellsDevice n told (shows_by told) c.args.guest.now c.tell_device.new.guest) c.balloon_number.ensures
    (subst (λ (t : DeviceChange). TellsDevice c.balloon_number.result t (shows_by t) c.args.guest.now c.tell_device.new.guest) c.interval_told.ensures
    c.tell_device.ensures))
