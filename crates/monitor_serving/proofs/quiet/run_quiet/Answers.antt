use Rattle.std.proofs.Common.{Some}
use Rattle.monitor_machine.specs.State.{IsLive}
use Rattle.monitor_running.proofs.Lifts.{went_on}
use Rattle.monitor_serving.proofs.quiet.run_quiet.Goals as goal

pub returns-in-None-clause-went : goal.returns-in-None-clause-went
returns-in-None-clause-went g c =
    went_on IsLive (Some c.end_of_closed.result) _ _ _ _ _ _ c.in-None.ensures.went (c.end_of_closed.ensures.went _)
