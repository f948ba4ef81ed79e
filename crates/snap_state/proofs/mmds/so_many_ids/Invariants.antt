use Rattle.file_format.specs.Kinds.{text}
use Rattle.file_format.proofs.Loops.{Reading}
use Rattle.snap_state.proofs.mmds.so_many_ids.Given as goal

abbrev pub invariant-loop : goal.invariant-loop
invariant-loop l = Reading text l.count l.counter l.ids l.fn.input l.input
