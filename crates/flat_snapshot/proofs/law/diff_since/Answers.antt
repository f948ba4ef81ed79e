use Rattle.flat_snapshot.proofs.Diffs.{diff_of_both, is_file}
use Rattle.flat_snapshot.proofs.law.diff_since.Goals as goal

pub returns-clause-file : goal.returns-clause-file
returns-clause-file c = is_file

pub returns-clause-made : goal.returns-clause-made
returns-clause-made c = diff_of_both
