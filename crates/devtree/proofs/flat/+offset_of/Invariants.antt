use Rattle.std.proofs.Common.{length}
use Rattle.devtree.proofs.flat.+offset_of.Given as goal

abbrev pub decreases-offset_of : goal.decreases-offset_of
decreases-offset_of l = length l.names.now
