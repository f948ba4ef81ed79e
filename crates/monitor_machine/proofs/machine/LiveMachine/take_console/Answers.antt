use Rattle.std.proofs.Common.{Some, sym, subst, ap, ◌∙◌}
use Rattle.responses.specs.Output.{console_line}
use Rattle.vm_world.specs.Worlds.{WorldValue}
use Rattle.monitor_machine.specs.Ready.{IsReadyLive}
use Rattle.monitor_machine.specs.Seen.{live_of}
use Rattle.monitor_machine.proofs.Lines.{console_shown}
use Rattle.monitor_machine.proofs.Standing.{drain_stays, same_stays}
use Rattle.monitor_machine.proofs.machine.LiveMachine.take_console.Goals as goal

pub invariant_of-self-in_err-line : goal.invariant_of-self-in_err-line
invariant_of-self-in_err-line c = same_stays (live_of c.self.inside) (Some c.in-Some.guest) c.in-Some.is c.self.invariant

pub invariant_of-self-2 : goal.invariant_of-self-2
invariant_of-self-2 c =
    subst (λ (w : WorldValue). IsReadyLive (record (live_of c.self.inside) { guest = Some w })) (sym c.drain_all.ensures)
    (drain_stays (live_of c.self.inside) c.in-Some.guest c.in-Some.is c.self.invariant)

pub returns-clause-ok : goal.returns-clause-ok
returns-clause-ok c =
    rw (← c.self.view_is)
    (λ known m is.
    console_shown (live_of c.self.inside) known m c.in-Some.guest _ _ is c.in-Some.is c.drain_all.ensures
    (c.in_ok-line.ensures ∙ ap console_line c.console.ensures))
