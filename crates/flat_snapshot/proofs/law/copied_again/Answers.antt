use Rattle.flat_snapshot.proofs.CopiedAgain.{copied_again}
use Rattle.flat_snapshot.proofs.law.copied_again.Goals as goal

pub returns : goal.returns
returns c = copied_again
