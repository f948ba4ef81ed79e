use Rattle.flat_machine.proofs.Plain.{keeps_nothing, run_none}
use Rattle.flat_machine.proofs.law.no_devices.Goals as goal

pub returns-clause-request : goal.returns-clause-request
returns-clause-request c = keeps_nothing

pub returns-clause-run : goal.returns-clause-run
returns-clause-run c = run_none
