use Rattle.std.proofs.Common.{◌≡◌, drop}
use Rattle.snap_diff.specs.Runs.{are_runs}
use Rattle.snap_diff.proofs.run.are_runs.Given as goal

abbrev pub invariant-loop-i : goal.invariant-loop-i
invariant-loop-i l = are_runs l.version l.pages (drop l.i l.runs) ≡ are_runs l.version l.pages l.runs
