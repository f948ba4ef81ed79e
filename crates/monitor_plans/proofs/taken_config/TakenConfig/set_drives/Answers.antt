use Rattle.std.proofs.Common.{sym, subst}
use Rattle.vm_config.specs.declared.config.Config.{Config}
use Rattle.flat_machine.specs.Ready.{AreFitting}
use Rattle.monitor_plans.proofs.taken_config.TakenConfig.set_drives.Goals as goal

pub invariant_of-self : goal.invariant_of-self
invariant_of-self c =
    let fit = subst (λ (k : Config). AreFitting c.args.drives k.interfaces k.vsock k.balloon k.entropy) (sym c.self.view_is) c.requires in
    rw c.set_drives.ensures (record {
      source = c.self.invariant.source;
      drives = fit.0;
      interfaces = c.self.invariant.interfaces;
      vsock = c.self.invariant.vsock;
      mmds = c.self.invariant.mmds;
      machine = c.self.invariant.machine;
      balloon = c.self.invariant.balloon;
      entropy = c.self.invariant.entropy;
      room = fit.1;
    })
