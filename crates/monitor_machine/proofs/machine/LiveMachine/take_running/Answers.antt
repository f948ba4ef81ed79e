use Rattle.std.proofs.Common.{sym, subst, Option}
use Rattle.vm_world.specs.Worlds.{WorldValue}
use Rattle.monitor_machine.specs.Ready.{IsReadyLive}
use Rattle.monitor_machine.specs.Seen.{live_of}
use Rattle.monitor_machine.proofs.Standing.{taken_out, taken_ready}
use Rattle.monitor_machine.proofs.machine.LiveMachine.take_running.Goals as goal

pub invariant_of-self : goal.invariant_of-self
invariant_of-self c =
    subst (λ (o : Option WorldValue). IsReadyLive (record (live_of c.self.inside) { guest = o })) (sym c.take.ensures.after)
    (taken_out (live_of c.self.inside) c.self.invariant)

pub returns-else-self-clause-ready : goal.returns-else-self-clause-ready
returns-else-self-clause-ready c = taken_ready (live_of c.self.inside) c.take.result c.take.ensures.value c.self.invariant
