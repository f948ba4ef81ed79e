use Rattle.std.proofs.Common.{◌≡◌, ◌≤◌, ◌++◌, drop}
use Rattle.snap_diff.specs.Runs.{runs_from, runs_of}
use Rattle.snap_diff.proofs.making.runs_of.Given as goal

abbrev pub invariant-loop-i : goal.invariant-loop-i
invariant-loop-i l =
    (l.runs ++ runs_from l.run (drop l.i l.numbers) (drop l.i l.kinds) ≡ runs_of l.numbers l.kinds) × (l.run.length ≤ l.i)
