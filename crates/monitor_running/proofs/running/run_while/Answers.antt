use Rattle.std.proofs.Common.{◌∙◌, suc, zero, None, Some, refl, rules, subst, sym}
use Rattle.monitor_machine.specs.State.{IsLive}
use Rattle.monitor_running.specs.declared.ran.Ran.TheVariants as ran
use Rattle.monitor_running.specs.Paced.EndsPaced.{Ended, Shut}
use Rattle.monitor_running.specs.Ran.{IsOff}
use Rattle.monitor_running.proofs.Lifts.{went_nowhere, went_on}
use Rattle.monitor_running.proofs.Passing.{passed_closed, passed_none, passed_on}
use Rattle.monitor_running.proofs.running.run_while.Goals as goal

pub loop-init : goal.loop-init
loop-init g c = record {
  can = search rules;
  finite = search rules;
  went = went_nowhere IsLive _ _;
  off = λ off. refl;
  passes = passed_none _ _ _ c.requires.serve;
  steps = refl;
  paced = (zero, (refl, refl));
}

pub returns-then-not-is_open-clause-went : goal.returns-then-not-is_open-clause-went
returns-then-not-is_open-clause-went g c =
    went_on IsLive (Some c.end_of_closed.result) _ _ _ _ _ _ c.loop.invariant.went (c.end_of_closed.ensures.went _)

pub returns-then-not-is_open-clause-passes : goal.returns-then-not-is_open-clause-passes
returns-then-not-is_open-clause-passes g c =
    passed_closed _ _ c.end_of_closed.result _ _
    (passed_on _ _ (Some ran.Closed) _ c.loop.steering.passes.items _ c.requires.some c.loop.invariant.passes c.if-not-is_open.ensures)

pub returns-then-not-is_open-clause-off : goal.returns-then-not-is_open-clause-off
returns-then-not-is_open-clause-off g c = λ off.
    c.end_of_closed.ensures.off (subst IsOff (sym (c.loop.invariant.off off)) off)

pub returns-in-Some-run_once-clause-off : goal.returns-in-Some-run_once-clause-off
returns-in-Some-run_once-clause-off g c = λ off.
    let ended = c.in-Some-run_once.ensures.off (subst IsOff (sym (c.loop.invariant.off off)) off) in cc

pub returns-in-Some-run_once-clause-went : goal.returns-in-Some-run_once-clause-went
returns-in-Some-run_once-clause-went g c =
    went_on IsLive (Some c.in-Some-run_once.end) _ _ _ _ _ _ c.loop.invariant.went c.in-Some-run_once.ensures.went

pub returns-then-not-is_open-clause-paced : goal.returns-then-not-is_open-clause-paced
returns-then-not-is_open-clause-paced g c =
    let paced = c.loop.invariant.paced in
    Shut paced.0 c.loop.steering paced.1 refl c.if-not-is_open.ensures

pub returns-in-Some-run_once-clause-steps : goal.returns-in-Some-run_once-clause-steps
returns-in-Some-run_once-clause-steps g c = c.in-Some-run_once.ensures.steps ∙ c.loop.invariant.steps

pub returns-in-Some-run_once-clause-paced : goal.returns-in-Some-run_once-clause-paced
returns-in-Some-run_once-clause-paced g c =
    let paced = c.loop.invariant.paced in
    Ended paced.0 c.loop.steering (record c.loop.steering { passes = c.is_open.new.passes }) c.loop.machine paced.1
    (record { passes = c.if-not-is_open.ensures; pace = refl }) c.in-Some-run_once.ensures.paced

pub loop-preserved : goal.loop-preserved
loop-preserved g c = record {
  can = search rules;
  finite = search rules;
  went = went_on IsLive None _ _ _ _ _ _ c.loop.invariant.went c.in_default.ensures.went;
  off = λ off. let ended = c.in_default.ensures.off (subst IsOff (sym (c.loop.invariant.off off)) off) in absurd cc;
  passes =
      passed_on _ _ None _ c.is_open.new.passes.items _ c.requires.some
      (passed_on _ _ None _ c.loop.steering.passes.items _ c.requires.some c.loop.invariant.passes c.if-not-is_open.ensures)
      c.in_default.ensures.passes;
  steps = c.in_default.ensures.steps ∙ c.loop.invariant.steps;
  paced =
      let paced = c.loop.invariant.paced in (
        suc paced.0,
        (
          c.loop.steering,
          record c.loop.steering { passes = c.is_open.new.passes },
          c.loop.machine,
          paced.1,
          record { passes = c.if-not-is_open.ensures; pace = refl },
          c.in_default.ensures.paced,
        ),
      );
}
