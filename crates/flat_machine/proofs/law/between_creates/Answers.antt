use Rattle.flat_machine.proofs.Between.{run_on}
use Rattle.flat_machine.proofs.law.between_creates.Goals as goal

pub returns : goal.returns
returns c = run_on
