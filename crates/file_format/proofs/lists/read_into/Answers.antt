use Rattle.file_format.proofs.Loops.{Filling-more}
use Rattle.file_format.proofs.lists.read_into.Goals as goal

pub loop-i-preserved : goal.loop-i-preserved
loop-i-preserved g c =
    Filling-more g.T.Stored.format _ _ _ _ _ _ _ c.loop-i.invariant c.loop-i-test.true c.in_ok-places.ensures
