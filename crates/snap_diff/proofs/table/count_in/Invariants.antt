use Rattle.std.proofs.Common.{◌≡◌, ◌+◌, drop, length}
use Rattle.snap_diff.specs.Runs.{numbers_of}
use Rattle.snap_diff.proofs.table.count_in.Given as goal

abbrev pub invariant-loop-run : goal.invariant-loop-run
invariant-loop-run l = l.pages + length (numbers_of (drop l.run-index l.runs)) ≡ length (numbers_of l.runs)
