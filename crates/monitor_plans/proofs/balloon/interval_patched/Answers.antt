use Rattle.std.proofs.Common.{◌∙◌, ap, sym}
use Rattle.vm_config.specs.declared.config.Config.{Config}
use Rattle.monitor_plans.proofs.DevicesMade.{interval_is}
use Rattle.monitor_plans.proofs.balloon.interval_patched.Goals as goal

pub returns-clause-is : goal.returns-clause-is
returns-clause-is c =
    interval_is c.args.patch.now c.args.config.now.balloon c.in-Some.balloon
    (ap (λ (k : Config). k.balloon) (sym c.get.ensures.same) ∙ c.in-Some.is)
