use Rattle.std.proofs.Common.{◌∙◌, ap, sym, subst}
use Rattle.vm_config.specs.declared.config.Config.{Config}
use Rattle.flat_machine.specs.Ready.{IsTaken}
use Rattle.monitor_plans.proofs.DevicesMade.{amount_is, amount_within, balloon_near}
use Rattle.monitor_plans.proofs.balloon.amount_patched.Goals as goal

pub returns-clause-is : goal.returns-clause-is
returns-clause-is c =
    amount_is c.args.patch.now c.args.config.now.balloon c.in-Some.balloon
    (ap (λ (k : Config). k.balloon) (sym c.get.ensures.same) ∙ c.in-Some.is)

pub returns-clause-few : goal.returns-clause-few
returns-clause-few c =
    amount_within c.args.config.now c.args.patch.now.amount_mib (subst IsTaken c.get.ensures.same c.get.ensures.taken) c.requires

pub returns-clause-near : goal.returns-clause-near
returns-clause-near c = balloon_near c.get.result.now c.in-Some.balloon c.get.ensures.taken c.in-Some.is
