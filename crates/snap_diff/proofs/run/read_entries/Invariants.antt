use Rattle.file_format.proofs.Loops.{Reading}
use Rattle.snap_diff.specs.Diffs.{entry}
use Rattle.snap_diff.proofs.run.read_entries.Given as goal

abbrev pub invariant-loop : goal.invariant-loop
invariant-loop l = Reading (entry l.version) l.count l.counter l.runs l.fn.input l.input
