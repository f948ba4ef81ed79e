use Rattle.monitor_running.proofs.Turns.{turn_before}
use Rattle.monitor_running.proofs.rotating.run_and_pass.Goals as goal

pub returns : goal.returns
returns g c = turn_before _ _ c.pass_round.result _ _ _ _ _ _ _ _ c.in_default.ensures c.pass_round.ensures
