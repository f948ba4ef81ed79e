use Rattle.file_format.proofs.Loops.{Filling}
use Rattle.file_format.proofs.lists.read_into.Given as goal

abbrev pub invariant-loop-i : goal.invariant-loop-i
invariant-loop-i g l = Filling g.T.Stored.format l.i-end l.i l.places l.fn.input l.input
