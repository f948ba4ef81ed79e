use Rattle.std.proofs.Common.{None, Some}
use Rattle.monitor_running.proofs.Turns.{turn_behind, turn_by}
use Rattle.monitor_running.proofs.alone.run_alone.Goals as goal

pub returns-in-Some : goal.returns-in-Some
returns-in-Some g c = turn_by _ _ (Some c.in-Some.end) _ _ _ _ _ c.requires.serve c.in-Some.ensures

pub returns-then-hart_count-gt-HART_LIMIT : goal.returns-then-hart_count-gt-HART_LIMIT
returns-then-hart_count-gt-HART_LIMIT g c = turn_by _ _ None _ _ _ _ _ c.requires.serve c.in_default.ensures

pub returns : goal.returns
returns g c = turn_behind _ _ c.run_burst.result _ _ _ _ _ _ _ _ c.in_default.ensures c.run_burst.ensures
