use Rattle.snap_diff.proofs.Shorter.{shorter}
use Rattle.snap_diff.proofs.Written.{written_file}
use Rattle.snap_diff.proofs.law.written_diff.Goals as goal

pub returns-clause-short : goal.returns-clause-short
returns-clause-short c = shorter

pub returns-clause-file : goal.returns-clause-file
returns-clause-file c = written_file
