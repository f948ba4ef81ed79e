use Rattle.std.proofs.Common.{◌∙◌, Some, ap, refl, sym}
use Rattle.vm_world.proofs.Events.{is_there}
use Rattle.monitor_machine.proofs.Lines.{never_reserved, runs_reserved, step_moves, step_no_actor, step_refused, step_still}
use Rattle.monitor_machine.proofs.Standing.{run_stays, same_stays}
use Rattle.monitor_machine.specs.Seen.{live_of}
use Rattle.monitor_machine.proofs.machine.LiveMachine.step.Goals as goal

pub returns-then-self-clause-ok : goal.returns-then-self-clause-ok
returns-then-self-clause-ok c =
    rw (← c.self.view_is)
    (λ known m is.
    step_still (live_of c.self.inside) known m c.args.actor c.args.count _ is c.if-self.true c.in_ok-misfit_line.ensures)

pub returns-in_default-clause-ok : goal.returns-in_default-clause-ok
returns-in_default-clause-ok c =
    rw (← c.self.view_is)
    (λ known m is.
    step_refused (live_of c.self.inside) known m c.args.actor c.args.count _ is c.if-self.false c.in_default.is c.in_ok-misfit_line-2.ensures)

pub returns-in_default-want-clause-ok : goal.returns-in_default-want-clause-ok
returns-in_default-want-clause-ok c =
    rw (← c.self.view_is)
    (λ known m is.
    step_no_actor (live_of c.self.inside) known m c.in-Some.guest c.in-Some.guest c.args.actor c.args.count _ is c.if-self.false c.in-Some.is refl c.in_default-want.ensures.wants c.in_ok-misfit_line-3.ensures)

pub invariant_of-self-in_err-reserve : goal.invariant_of-self-in_err-reserve
invariant_of-self-in_err-reserve c =
    same_stays (live_of c.self.inside) (Some c.reserve.new.self) (c.in-Some.is ∙ ap Some (sym c.in_err-reserve.ensures.err)) c.self.invariant

pub invariant_of-self-in_err-misfit_line-3 : goal.invariant_of-self-in_err-misfit_line-3
invariant_of-self-in_err-misfit_line-3 c = same_stays (live_of c.self.inside) (Some c.in-Some.guest) c.in-Some.is c.self.invariant

pub invariant_of-self-in_default-want : goal.invariant_of-self-in_default-want
invariant_of-self-in_default-want c = same_stays (live_of c.self.inside) (Some c.in-Some.guest) c.in-Some.is c.self.invariant

pub invariant_of-self-2 : goal.invariant_of-self-2
invariant_of-self-2 c =
    run_stays (live_of c.self.inside) c.in-Some.guest c.run.new.self c.args.actor c.args.count c.in-Ok.made c.if-self.false c.in-Some.is
    (runs_reserved c.in-Some.guest c.reserve.new.self c.run.new.self c.args.actor c.args.count c.in-Ok.made c.reserve.ensures.ok c.in-Ok.ensures.made)
    c.self.invariant

pub returns-clause-ok : goal.returns-clause-ok
returns-clause-ok c =
    rw (← c.self.view_is)
    (λ known m is.
    step_moves (live_of c.self.inside) known m c.in-Some.guest c.run.new.self c.args.actor c.args.count c.in-Ok.made c.is_off.result _ is c.if-self.false c.in-Some.is (λ g here. is_there c.in-Some.guest g c.args.actor _ here (sym c.in-Some-want.ensures.state)) c.is_off.ensures c.steps_line.ensures
    (runs_reserved c.in-Some.guest c.reserve.new.self c.run.new.self c.args.actor c.args.count c.in-Ok.made c.reserve.ensures.ok c.in-Ok.ensures.made))

pub unreachable-requires : goal.unreachable-requires
unreachable-requires c =
    never_reserved c.in-Some.guest c.reserve.new.self c.args.actor _ c.reserve.ensures.ok (sym c.in-Some-want.ensures.state)
    c.in_default-run.ensures.none
