use Rattle.std.proofs.Common.{Option, ap, is_some}
use Rattle.flat_guest.specs.Guest.{Guest}
use Rattle.flat_machine.specs.Machine.{new_machine}
use Rattle.alike_runs.proofs.Configured.{new_configured, run_configured, trace_configured}
use Rattle.alike_runs.proofs.law.started_is_configured.Goals as goal

pub returns-clause-run : goal.returns-clause-run
returns-clause-run c acts id saved calls text n g run there =
    run_configured acts (new_machine id saved calls) n text (new_configured id saved calls) run (ap (λ (o : Option Guest). is_some o) there)

pub returns-clause-traced : goal.returns-clause-traced
returns-clause-traced c acts id saved calls outs n g run there =
    trace_configured acts (new_machine id saved calls) n outs (new_configured id saved calls) run (ap (λ (o : Option Guest). is_some o) there)
