use Rattle.std.proofs.Common.{◌≡◌, ◌≤◌, ◌-◌, length, drop}
use Rattle.load_run.specs.Failures.{tells_failure}
use Rattle.load_run.proofs.failures.tells_failure.Given as goal

abbrev pub invariant-loop-at : goal.invariant-loop-at
invariant-loop-at l = record {
  within : l.at ≤ length l.answers;
  rest : tells_failure (drop l.at l.answers) ≡ tells_failure l.answers;
}

abbrev pub decreases-loop-at : goal.decreases-loop-at
decreases-loop-at l = length l.answers - l.at
