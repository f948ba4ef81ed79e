use Rattle.flat_snapshot.proofs.Copied.{plain_copy, same_copy, same_guest, some_copy}
use Rattle.flat_snapshot.proofs.law.one_copy_of.Goals as goal

pub returns-clause-one : goal.returns-clause-one
returns-clause-one c = same_copy

pub returns-clause-plain : goal.returns-clause-plain
returns-clause-plain c = plain_copy

pub returns-clause-same_guest : goal.returns-clause-same_guest
returns-clause-same_guest c = same_guest

pub returns-clause-some : goal.returns-clause-some
returns-clause-some c = some_copy
