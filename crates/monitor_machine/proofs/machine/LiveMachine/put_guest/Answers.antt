use Rattle.std.proofs.Common.{Some, sym, subst}
use Rattle.monitor_machine.specs.Live.{Live}
use Rattle.monitor_machine.specs.Ready.{IsReadyLive}
use Rattle.monitor_machine.proofs.machine.LiveMachine.put_guest.Goals as goal

pub invariant_of-self : goal.invariant_of-self
invariant_of-self c = subst (λ (l : Live). IsReadyLive (record l { guest = Some c.args.guest })) (sym c.self.view_is) c.requires
