use Rattle.std.proofs.Common.{length}
use Rattle.snap_state.proofs.address.+is_small.Given as goal

abbrev pub decreases-is_small : goal.decreases-is_small
decreases-is_small l = length l.text.now
