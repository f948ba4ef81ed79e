use Rattle.turn_work.proofs.Noting.{noted_none}
use Rattle.turn_work.proofs.worker.Worker.new.Goals as goal

pub returns-clause-noted : goal.returns-clause-noted
returns-clause-noted g c = λ index. noted_none c.args.seat.now.me.0.round index c.split.result.me.0 c.split.ensures.right
