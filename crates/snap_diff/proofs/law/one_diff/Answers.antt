use Rattle.snap_diff.proofs.Again.{one_file}
use Rattle.snap_diff.proofs.Files.{one, found_again, found_good, whole}
use Rattle.snap_diff.proofs.law.one_diff.Goals as goal

pub returns-clause-one : goal.returns-clause-one
returns-clause-one c = one

pub returns-clause-file : goal.returns-clause-file
returns-clause-file c = one_file

pub returns-clause-found : goal.returns-clause-found
returns-clause-found c given d bytes = (found_good given d bytes, found_again given d)

pub returns-clause-whole : goal.returns-clause-whole
returns-clause-whole c = whole
