use Rattle.monitor_running.proofs.Beside.{none_acted}
use Rattle.monitor_running.proofs.Turns.{part_nowhere}
use Rattle.monitor_running.proofs.running.act_before.Goals as goal

pub returns-then-act_beside-clause-part : goal.returns-then-act_beside-clause-part
returns-then-act_beside-clause-part g c = part_nowhere _ c.args.world.now

pub returns-then-act_beside-clause-acted : goal.returns-then-act_beside-clause-acted
returns-then-act_beside-clause-acted g c = λ none. none_acted c.args.world.now
