use Rattle.monitor_running.proofs.Lent.{clock_unasked}
use Rattle.monitor_running.proofs.Told.{clock_happened, round_gone}
use Rattle.monitor_running.proofs.Turns.{wanting_part}
use Rattle.monitor_running.proofs.waiting.pass_round.Goals as goal

pub returns-in_default : goal.returns-in_default
returns-in_default g c =
    let all = g.W.TurnObjects.known in
    wanting_part (all c.args.with.now) (all c.pass_by.new.with) _ _ _
    (clock_unasked _ _ c.pass_by.ensures.beside c.in_default.ensures.clock) c.in_default.ensures.world

pub returns : goal.returns
returns g c =
    let was = g.W.TurnObjects.known c.args.with.now in
    let now = g.W.TurnObjects.known c.pass_by.new.with in
    let es = c.in-Ok.events.items in
    c.tell_slice.ensures.part was c.args.world.now
    (clock_happened es _ was now c.args.world.now c.pass_by.new.world c.as_slice.ensures.value c.pass_by.ensures.beside
    (round_gone c.args.but es c.args.world.now c.pass_by.new.world was.host.clock now.host.clock was.host.devices c.in-Ok.ensures.gone
    c.in-Ok.ensures.made))
