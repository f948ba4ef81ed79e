use Rattle.std.proofs.Common.{◌≡◌, ◌++◌, drop}
use Rattle.snap_diff.specs.Runs.{chosen}
use Rattle.snap_writer.proofs.kinds.chosen.Given as goal

abbrev pub invariant-loop-i : goal.invariant-loop-i
invariant-loop-i l = l.some.items ++ chosen (drop l.i l.numbers) (drop l.i l.kinds) ≡ chosen l.numbers l.kinds
