use Rattle.std.proofs.Common.{◌∙◌, ap, sym, subst}
use Rattle.vm_config.specs.declared.config.Config.{Config}
use Rattle.flat_machine.specs.Ready.{AreLinked}
use Rattle.monitor_machine.specs.Live.{Live}
use Rattle.monitor_machine.specs.Ready.{IsReadyLive}
use Rattle.monitor_machine.specs.Seen.{live_of}
use Rattle.monitor_machine.proofs.Configured.{interfaces_stay}
use Rattle.monitor_machine.proofs.machine.LiveMachine.take_interfaces.Goals as goal

pub set_interfaces-requires : goal.set_interfaces-requires
set_interfaces-requires c = subst (λ (l : Live). AreLinked l.config.drives c.args.interfaces l.config.vsock l.config.balloon l.config.entropy l.config.mmds) (sym c.self.view_is) c.requires.fit

pub invariant_of-self : goal.invariant_of-self
invariant_of-self c =
    subst (λ (k : Config). IsReadyLive (record (live_of c.self.inside) { config = k })) (sym c.set_interfaces.ensures)
    (interfaces_stay (live_of c.self.inside) c.args.interfaces (subst (λ (l : Live). AreLinked l.config.drives c.args.interfaces l.config.vsock l.config.balloon l.config.entropy l.config.mmds) (sym c.self.view_is) c.requires.fit) (ap (λ (l : Live). l.guest) c.self.view_is ∙ c.requires.early) c.self.invariant)
