use Rattle.flat_machine.proofs.Taken.{default_taken}
use Rattle.monitor_plans.proofs.taken_config.TakenConfig.new.Goals as goal

pub invariant_of-result : goal.invariant_of-result
invariant_of-result c = rw c.new.ensures default_taken
