use Rattle.file_format.proofs.Loops.{Writing}
use Rattle.snap_state.proofs.listed.write_all.Given as goal

abbrev pub invariant-loop-it : goal.invariant-loop-it
invariant-loop-it g l = Writing g.T.Item.format l.items l.it-index l.fn.out.items l.out.items
