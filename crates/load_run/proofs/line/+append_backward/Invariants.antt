use Rattle.std.proofs.Common.{length}
use Rattle.load_run.proofs.line.+append_backward.Given as goal

abbrev pub decreases-append_backward : goal.decreases-append_backward
decreases-append_backward l = length l.digits.now
