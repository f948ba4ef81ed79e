use Rattle.std.proofs.Common.{ℕ, subst, Option}
use Rattle.api_calls.specs.declared.balloon.Balloon.{Balloon}
use Rattle.vm_config.specs.Devices.{balloon_device}
use Rattle.flat_machine.specs.Balloon.{interval_told, target_in}
use Rattle.monitor_machine.specs.Telling.{Retargets, TellsDevice}
use Rattle.monitor_machine.proofs.machine.telling.tell_amount.Goals as goal

pub returns : goal.returns
returns c =
    let b = c.in-Some.balloon in
    subst (λ (o : Option Balloon). Retargets o (balloon_device c.args.config.now) c.args.guest.now c.tell_target.new.guest) c.in-Some.ensures.is
    (subst (λ (n : Option ℕ). TellsDevice n (interval_told b) (target_in b) c.args.guest.now c.tell_target.new.guest) c.balloon_number.ensures
    c.tell_target.ensures)
