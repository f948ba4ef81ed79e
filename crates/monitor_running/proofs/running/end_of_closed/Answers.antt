use Rattle.monitor_running.proofs.Lifts.{never_off, went_closed, went_off}
use Rattle.monitor_running.proofs.running.end_of_closed.Goals as goal

pub returns-then-is_off-clause-went : goal.returns-then-is_off-clause-went
returns-then-is_off-clause-went c = λ k. went_off k c.args.machine.now c.is_off.result c.if-is_off.true c.is_off.ensures

pub returns-else-is_off-clause-went : goal.returns-else-is_off-clause-went
returns-else-is_off-clause-went c = λ k. went_closed k c.args.machine.now c.is_off.result c.if-is_off.false c.is_off.ensures

pub returns-else-is_off-clause-off : goal.returns-else-is_off-clause-off
returns-else-is_off-clause-off c = never_off c.args.machine.now c.is_off.result c.if-is_off.false c.is_off.ensures
