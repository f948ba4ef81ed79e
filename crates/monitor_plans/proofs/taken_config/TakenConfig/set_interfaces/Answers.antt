use Rattle.std.proofs.Common.{sym, subst}
use Rattle.vm_config.specs.declared.config.Config.{Config}
use Rattle.flat_machine.specs.Ready.{AreLinked}
use Rattle.monitor_plans.proofs.taken_config.TakenConfig.set_interfaces.Goals as goal

pub invariant_of-self : goal.invariant_of-self
invariant_of-self c =
    let fit = subst (λ (k : Config). AreLinked k.drives c.args.interfaces k.vsock k.balloon k.entropy k.mmds) (sym c.self.view_is) c.requires in
    rw c.set_interfaces.ensures (record {
      source = c.self.invariant.source;
      drives = c.self.invariant.drives;
      interfaces = fit.0;
      vsock = c.self.invariant.vsock;
      mmds = fit.2;
      machine = c.self.invariant.machine;
      balloon = c.self.invariant.balloon;
      entropy = c.self.invariant.entropy;
      room = fit.1;
    })
