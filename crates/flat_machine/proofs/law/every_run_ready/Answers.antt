use Rattle.flat_machine.proofs.Ready.{can_be_copied, every_run, run_ready}
use Rattle.flat_machine.proofs.law.every_run_ready.Goals as goal

pub returns-clause-ready : goal.returns-clause-ready
returns-clause-ready c = every_run

pub returns-clause-stays : goal.returns-clause-stays
returns-clause-stays c = run_ready

pub returns-clause-copied : goal.returns-clause-copied
returns-clause-copied c = can_be_copied
