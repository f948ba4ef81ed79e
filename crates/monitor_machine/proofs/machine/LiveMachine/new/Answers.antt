use Rattle.std.proofs.Common.{refl}
use Rattle.flat_machine.specs.Machine.{first_ids}
use Rattle.monitor_machine.proofs.Standing.{new_stands}
use Rattle.monitor_machine.proofs.machine.LiveMachine.new.Goals as goal

pub invariant_of-result : goal.invariant_of-result
invariant_of-result c = new_stands c.args.id first_ids c.new.result c.new-2.result refl c.new.ensures c.new-2.ensures
