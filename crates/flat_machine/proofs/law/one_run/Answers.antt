use Rattle.flat_machine.proofs.Determined.{run_after, run_text}
use Rattle.flat_machine.proofs.law.one_run.Goals as goal

pub returns-clause-text : goal.returns-clause-text
returns-clause-text c = run_text

pub returns-clause-after : goal.returns-clause-after
returns-clause-after c = run_after
