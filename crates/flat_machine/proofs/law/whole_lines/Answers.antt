use Rattle.flat_machine.proofs.WholeLines.{fault_between, run_leaves_quiet}
use Rattle.flat_machine.proofs.law.whole_lines.Goals as goal

pub returns-clause-quiet : goal.returns-clause-quiet
returns-clause-quiet c = run_leaves_quiet

pub returns-clause-fault : goal.returns-clause-fault
returns-clause-fault c = fault_between
