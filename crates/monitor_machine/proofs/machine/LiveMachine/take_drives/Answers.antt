use Rattle.std.proofs.Common.{◌∙◌, ap, sym, subst}
use Rattle.vm_config.specs.declared.config.Config.{Config}
use Rattle.flat_machine.specs.Ready.{AreFitting}
use Rattle.monitor_machine.specs.Live.{Live}
use Rattle.monitor_machine.specs.Ready.{IsReadyLive}
use Rattle.monitor_machine.specs.Seen.{live_of}
use Rattle.monitor_machine.proofs.Configured.{drives_stay}
use Rattle.monitor_machine.proofs.machine.LiveMachine.take_drives.Goals as goal

pub set_drives-requires : goal.set_drives-requires
set_drives-requires c = subst (λ (l : Live). AreFitting c.args.drives l.config.interfaces l.config.vsock l.config.balloon l.config.entropy) (sym c.self.view_is) c.requires.fit

pub invariant_of-self : goal.invariant_of-self
invariant_of-self c =
    subst (λ (k : Config). IsReadyLive (record (live_of c.self.inside) { config = k })) (sym c.set_drives.ensures)
    (drives_stay (live_of c.self.inside) c.args.drives (subst (λ (l : Live). AreFitting c.args.drives l.config.interfaces l.config.vsock l.config.balloon l.config.entropy) (sym c.self.view_is) c.requires.fit) (ap (λ (l : Live). l.guest) c.self.view_is ∙ c.requires.early) c.self.invariant)
