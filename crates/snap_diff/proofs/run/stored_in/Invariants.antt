use Rattle.std.proofs.Common.{◌≡◌, ◌≤◌, ◌+◌, ◌*◌, drop}
use Rattle.snap_diff.specs.Runs.{stored_in}
use Rattle.snap_diff.proofs.run.stored_in.Given as goal

abbrev pub invariant-loop-run : goal.invariant-loop-run
invariant-loop-run l = record {
  few : l.pages ≤ 4294967296 * l.run-index;
  rest : l.pages + stored_in (drop l.run-index l.runs) ≡ stored_in l.runs;
}
