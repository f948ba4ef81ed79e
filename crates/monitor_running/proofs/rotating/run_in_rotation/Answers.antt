use Rattle.std.proofs.Common.{ap, None, Some}
use Rattle.monitor_running.proofs.Turns.{turn_behind, turn_by}
use Rattle.monitor_running.specs.declared.pacing.Pace.{Pace}
use Rattle.monitor_running.proofs.rotating.run_in_rotation.Goals as goal

pub returns-in-Some-clause-turn : goal.returns-in-Some-clause-turn
returns-in-Some-clause-turn g c = turn_by _ _ (Some c.in-Some.end) _ _ _ _ _ c.requires.serve c.in-Some.ensures

pub returns-then-hart_count-gt-HART_LIMIT-clause-turn : goal.returns-then-hart_count-gt-HART_LIMIT-clause-turn
returns-then-hart_count-gt-HART_LIMIT-clause-turn g c = turn_by _ _ None _ _ _ _ _ c.requires.serve c.in_default.ensures

pub returns-clause-turn : goal.returns-clause-turn
returns-clause-turn g c = turn_behind _ _ c.run_and_pass-end.result _ _ _ _ _ _ _ _ c.in_default.ensures c.run_and_pass-end.ensures

pub returns-clause-left : goal.returns-clause-left
returns-clause-left g c = ap (λ (p : Pace). p.left) c.told_rotation.ensures

pub returns-clause-steps : goal.returns-clause-steps
returns-clause-steps g c = ap (λ (p : Pace). p.steps) c.told_rotation.ensures
