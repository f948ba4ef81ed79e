use Rattle.std.proofs.Common.{◌∙◌, ℕ, sym, ap, subst, Option}
use Rattle.api_calls.specs.declared.call.ApiCall.{ApiCall}
use Rattle.vm_config.specs.Drives.{device_of}
use Rattle.flat_machine.specs.Limits.{limits_told}
use Rattle.flat_machine.specs.Ready.{IsFitting}
use Rattle.monitor_machine.specs.Telling.{Relimits, TellsChange}
use Rattle.monitor_machine.proofs.machine.telling.tell_change.Goals as goal

pub tell_limits-requires : goal.tell_limits-requires
tell_limits-requires c = (subst (λ (x : ApiCall). IsFitting c.args.config.now x) c.in-PatchDrive.is c.requires).1

pub tell_interface-requires : goal.tell_interface-requires
tell_interface-requires c = subst (λ (x : ApiCall). IsFitting c.args.config.now x) c.in-PatchInterface.is c.requires

pub tell_amount-requires : goal.tell_amount-requires
tell_amount-requires c = subst (λ (x : ApiCall). IsFitting c.args.config.now x) c.in-PatchBalloon.is c.requires

pub tell_interval-requires : goal.tell_interval-requires
tell_interval-requires c = subst (λ (x : ApiCall). IsFitting c.args.config.now x) c.in-PatchStatistics.is c.requires

pub returns-in-PatchDrive : goal.returns-in-PatchDrive
returns-in-PatchDrive c =
    subst (λ (x : ApiCall). TellsChange x c.args.config.now c.args.guest.now c.tell_limits.new.guest) (sym c.in-PatchDrive.is)
    (subst (λ (n : Option ℕ). Relimits limits_told c.in-PatchDrive.patch.rate_limiter n c.args.guest.now c.tell_limits.new.guest) (c.device_number-device.ensures ∙ ap (device_of c.args.config.now.drives) c.as_str.ensures)
    c.tell_limits.ensures)

pub returns-in-PatchInterface : goal.returns-in-PatchInterface
returns-in-PatchInterface c =
    subst (λ (x : ApiCall). TellsChange x c.args.config.now c.args.guest.now c.tell_interface.new.guest) (sym c.in-PatchInterface.is)
    c.tell_interface.ensures

pub returns-in-PatchBalloon : goal.returns-in-PatchBalloon
returns-in-PatchBalloon c =
    subst (λ (x : ApiCall). TellsChange x c.args.config.now c.args.guest.now c.tell_amount.new.guest) (sym c.in-PatchBalloon.is) c.tell_amount.ensures

pub returns-in-PatchStatistics : goal.returns-in-PatchStatistics
returns-in-PatchStatistics c =
    subst (λ (x : ApiCall). TellsChange x c.args.config.now c.args.guest.now c.tell_interval.new.guest) (sym c.in-PatchStatistics.is) c.tell_interval.ensures
