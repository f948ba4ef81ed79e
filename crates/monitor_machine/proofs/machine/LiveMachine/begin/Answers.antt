use Rattle.std.proofs.Common.{Some, false, refl, sym, subst}
use Rattle.vm_config.specs.declared.config.Config.{Config}
use Rattle.api_calls.specs.declared.call.ApiCall.TheVariants as call
use Rattle.api_rules.specs.Table.{changed}
use Rattle.monitor_plans.specs.Plans.{HasReadyGuest}
use Rattle.monitor_machine.specs.Live.{Live}
use Rattle.monitor_machine.specs.Ready.{IsReadyLive}
use Rattle.monitor_machine.specs.Seen.{live_of}
use Rattle.monitor_machine.proofs.Configured.{applied_is}
use Rattle.monitor_machine.proofs.Standing.{start_stays}
use Rattle.monitor_machine.proofs.machine.LiveMachine.begin.Goals as goal

pub invariant_of-self : goal.invariant_of-self
invariant_of-self c =
    subst (λ (k : Config). IsReadyLive (record (live_of c.self.inside) { config = k; guest = Some c.args.guest; paused = false }))
    (sym (applied_is c.apply-applied.result _ (c.apply-applied.ensures.succeeds refl) c.apply-applied.ensures.ok))
    (start_stays (live_of c.self.inside) c.args.guest
    (subst (λ (l : Live). HasReadyGuest (changed l.config call.InstanceStart) false c.args.guest) (sym c.self.view_is) c.requires) c.self.invariant)
