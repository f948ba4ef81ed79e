use Rattle.file_format.proofs.Loops.{Reading}
use Rattle.snap_state.proofs.listed.read_all.Given as goal

abbrev pub invariant-loop : goal.invariant-loop
invariant-loop g l = Reading g.T.Item.format l.count l.counter l.items.items l.fn.input l.input
