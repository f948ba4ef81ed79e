use Rattle.std.proofs.Common.{◌≡◌, length}
use Rattle.balloon_device.specs.Statistics.{all_told}
use Rattle.balloon_device.proofs.telling.tell.Given as goal

abbrev pub invariant-loop-held : goal.invariant-loop-held
invariant-loop-held l = all_told l.held l.so_far ≡ all_told l.fn.held l.fn.so_far

abbrev pub decreases-loop-held : goal.decreases-loop-held
decreases-loop-held l = length l.held
