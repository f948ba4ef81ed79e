use Rattle.std.proofs.Common.{true, sym, subst, Option}
use Rattle.vm_world.specs.Worlds.{WorldValue}
use Rattle.monitor_machine.specs.Ready.{IsReadyLive}
use Rattle.monitor_machine.specs.Seen.{live_of}
use Rattle.monitor_machine.proofs.Standing.{pause_stays}
use Rattle.monitor_machine.proofs.machine.LiveMachine.pause.Goals as goal

pub invariant_of-self : goal.invariant_of-self
invariant_of-self c =
    subst (λ (o : Option WorldValue). IsReadyLive (record (live_of c.self.inside) { guest = o; paused = true })) (sym c.restart_timer.ensures)
    (pause_stays (live_of c.self.inside) c.if-self.false c.self.invariant)
