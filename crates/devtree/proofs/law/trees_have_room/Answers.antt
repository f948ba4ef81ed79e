use Rattle.devtree.proofs.Sizes.{tree_fits}
use Rattle.devtree.proofs.law.trees_have_room.Goals as goal

pub returns : goal.returns
returns c = tree_fits
