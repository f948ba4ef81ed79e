use Rattle.std.proofs.Common.{◌∙◌, ap, refl, Some}
use Rattle.monitor_running.proofs.Turns.{turn_behind, turn_by}
use Rattle.monitor_running.specs.declared.pacing.Pace.{Pace}
use Rattle.monitor_running.specs.Paced.IsWorldTurn.{Devices, Harts}
use Rattle.monitor_running.proofs.running.run_world.Goals as goal

pub returns-in-Some-clause-turn : goal.returns-in-Some-clause-turn
returns-in-Some-clause-turn g c = turn_by _ _ (Some c.in-Some.end) _ _ _ _ _ c.requires c.in-Some.ensures.part

pub returns-clause-turn : goal.returns-clause-turn
returns-clause-turn g c = turn_behind _ _ c.run_or_wait.result _ _ _ _ _ _ _ _ c.in_default.ensures.part c.run_or_wait.ensures.turn

pub returns-in-Some-clause-paced : goal.returns-in-Some-clause-paced
returns-in-Some-clause-paced g c = Devices (λ is. cc) (ap (λ (p : Pace). p.left) c.in-Some.ensures.timed) refl

pub returns-clause-paced : goal.returns-clause-paced
returns-clause-paced g c =
    let timed = c.in_default.ensures.timed in
    Harts c.act_before.new.world (record c.args.steering.now { pace = c.act_before.new.pace }) (c.in_default.ensures.acted refl)
    (record { passes = refl; steps = ap (λ (p : Pace). p.steps) timed; left = ap (λ (p : Pace). p.left) timed })
    c.run_or_wait.ensures.paced

pub returns-in-Some-clause-steps : goal.returns-in-Some-clause-steps
returns-in-Some-clause-steps g c = ap (λ (p : Pace). p.steps) c.in-Some.ensures.timed

pub returns-clause-steps : goal.returns-clause-steps
returns-clause-steps g c = c.run_or_wait.ensures.steps ∙ ap (λ (p : Pace). p.steps) c.in_default.ensures.timed
