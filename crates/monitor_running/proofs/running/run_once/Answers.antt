use Rattle.std.proofs.Common.{◌∙◌, ap, refl, sym, Some}
use Rattle.monitor_machine.specs.declared.machine.LiveMachine.{LiveMachine}
use Rattle.monitor_machine.specs.State.{IsLive}
use Rattle.monitor_running.specs.Paced.IsMachineTurn.{Off, Rest, World}
use Rattle.monitor_running.proofs.Lifts.{never_off, nothing_taken, slice_lifted, went_off}
use Rattle.monitor_running.proofs.Lent.{clock_rested}
use Rattle.monitor_running.proofs.Staying.{put_back}
use Rattle.monitor_running.proofs.running.run_once.Goals as goal

pub returns-then-is_off-clause-went : goal.returns-then-is_off-clause-went
returns-then-is_off-clause-went g c = went_off _ c.args.machine.now c.is_off.result c.if-is_off.true c.is_off.ensures

pub returns-in_default-clause-went : goal.returns-in_default-clause-went
returns-in_default-clause-went g c =
    let all = g.W.TurnObjects.known in
    let rested = c.rest_long.ensures in
    rw c.ready.ensures.same
    (clock_rested IsLive (all c.args.with.now) (all c.rest_long.new.with) _ _ _ rested.beside rested.rests
    (nothing_taken c.args.machine.now c.take_running.new.self (sym c.in_default.ensures.running) c.in_default.ensures.left))

pub put_guest-requires : goal.put_guest-requires
put_guest-requires g c =
    put_back c.args.machine.now c.take_running.new.self _ _ (sym c.in-Some.ensures.running) c.in-Some.ensures.left
    c.run_world-end.ensures.turn.part.ready c.in-Some.ensures.ready

pub returns-clause-went : goal.returns-clause-went
returns-clause-went g c =
    slice_lifted c.args.machine.now c.take_running.new.self c.put_guest.new.self _ _ _ _ (sym c.in-Some.ensures.running)
    c.in-Some.ensures.left c.put_guest.ensures c.run_world-end.result c.run_world-end.ensures.turn.part.went

pub returns-clause-passes : goal.returns-clause-passes
returns-clause-passes g c = c.run_world-end.ensures.turn.passes

pub returns-clause-unclosed : goal.returns-clause-unclosed
returns-clause-unclosed g c = c.run_world-end.ensures.turn.part.unclosed

pub returns-in_default-clause-off : goal.returns-in_default-clause-off
returns-in_default-clause-off g c = never_off c.args.machine.now c.is_off.result c.if-is_off.false c.is_off.ensures

pub returns-clause-off : goal.returns-clause-off
returns-clause-off g c = never_off c.args.machine.now c.is_off.result c.if-is_off.false c.is_off.ensures

pub returns-then-is_off-clause-paced : goal.returns-then-is_off-clause-paced
returns-then-is_off-clause-paced g c = Off refl refl

pub returns-in_default-clause-paced : goal.returns-in_default-clause-paced
returns-in_default-clause-paced g c = Rest (sym c.in_default.ensures.running) refl

pub returns-clause-paced : goal.returns-clause-paced
returns-clause-paced g c =
    World c.in-Some.world c.run_world-end.new.world (sym c.in-Some.ensures.running)
    (c.put_guest.ensures ∙ ap (λ (x : LiveMachine). record x { guest = Some c.run_world-end.new.world }) c.in-Some.ensures.left)
    c.run_world-end.ensures.paced
