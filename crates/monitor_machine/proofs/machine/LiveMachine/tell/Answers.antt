use Rattle.std.proofs.Common.{sym, ap, subst}
use Rattle.vm_config.specs.declared.config.Config.{Config}
use Rattle.flat_machine.specs.Ready.{IsFitting}
use Rattle.monitor_machine.specs.Live.{Live}
use Rattle.monitor_machine.specs.Seen.{live_of}
use Rattle.monitor_machine.proofs.Standing.{told_stays}
use Rattle.monitor_machine.proofs.machine.LiveMachine.tell.Goals as goal

pub tell_change-requires : goal.tell_change-requires
tell_change-requires c =
    subst (λ (k : Config). IsFitting k c.args.call.now) (sym (ap (λ (l : Live). l.config) c.self.view_is)) c.requires

pub invariant_of-self : goal.invariant_of-self
invariant_of-self c = told_stays (live_of c.self.inside) c.args.call.now c.tell_change.new.guest c.tell_change.ensures c.self.invariant

pub returns-clause-tells : goal.returns-clause-tells
returns-clause-tells c = rw (← c.self.view_is) c.tell_change.ensures
