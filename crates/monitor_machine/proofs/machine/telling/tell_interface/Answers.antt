use Rattle.std.proofs.Common.{◌∙◌, ℕ, ap, subst, Option}
use Rattle.vm_config.specs.Devices.{interface_device}
use Rattle.flat_machine.specs.Limits.{receives_told, transmits_told}
use Rattle.monitor_machine.specs.Telling.{Relimits}
use Rattle.monitor_machine.proofs.machine.telling.tell_interface.Goals as goal

pub tell_limits-requires : goal.tell_limits-requires
tell_limits-requires c = c.requires.0

pub tell_limits-requires-2 : goal.tell_limits-requires-2
tell_limits-requires-2 c = c.requires.1

pub returns : goal.returns
returns c =
    let patch = c.args.patch.now in
    let number = c.interface_number-device.ensures ∙ ap (interface_device c.args.config.now) c.as_str.ensures in (
      c.tell_limits.new.guest,
      subst (λ (n : Option ℕ). Relimits receives_told patch.rx_rate_limiter n c.args.guest.now c.tell_limits.new.guest) number
          c.tell_limits.ensures,
      subst (λ (n : Option ℕ). Relimits transmits_told patch.tx_rate_limiter n c.tell_limits.new.guest c.tell_limits-2.new.guest) number
          c.tell_limits-2.ensures,
    )
