use Rattle.std.proofs.Common.{None}
use Rattle.monitor_running.proofs.Turns.{part_on, rested_part}
use Rattle.monitor_running.proofs.running.wait.Goals as goal

pub returns : goal.returns
returns g c =
    let all = g.W.TurnObjects.known in
    let rested = c.rest_where_all_wait.ensures in
    part_on None _ _ _ _ _ _ c.in_default.ensures
    (rested_part (all c.pass_round.new.with) (all c.rest_where_all_wait.new.with) _ _ rested.beside rested.rests)
