use Rattle.std.proofs.Common.{◌≡◌, true, sym, subst, Option}
use Rattle.api_calls.specs.declared.limiter.Limiter.{Limiter}
use Rattle.api_calls.specs.Form.{holds}
use Rattle.api_calls.specs.Limits.{is_limiter}
use Rattle.guest_devices.specs.declared.change.DeviceChange.{DeviceChange}
use Rattle.flat_machine.specs.Requests.{shows_by}
use Rattle.monitor_plans.specs.Limiting.{tells_of}
use Rattle.monitor_machine.specs.Telling.{Relimits, TellsDevice}
use Rattle.monitor_machine.proofs.machine.telling.tell_limits.Goals as goal

pub limits_told-requires : goal.limits_told-requires
limits_told-requires c = subst (λ (o : Option Limiter). holds is_limiter o ≡ true) c.in-Some.is c.requires

pub returns : goal.returns
returns c =
    subst (λ (o : Option Limiter). Relimits (tells_of c.args.of) o c.args.device c.args.guest.now c.tell_device.new.guest) (sym c.in-Some.is)
    (subst (λ (t : DeviceChange). TellsDevice c.args.device t (shows_by t) c.args.guest.now c.tell_device.new.guest) c.limits_told.ensures
    c.tell_device.ensures)
