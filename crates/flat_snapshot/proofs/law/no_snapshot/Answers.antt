use Rattle.flat_snapshot.proofs.Loaded.{found_other}
use Rattle.flat_snapshot.proofs.Refused.{none_shut}
use Rattle.flat_snapshot.proofs.law.no_snapshot.Goals as goal

pub returns-clause-shut : goal.returns-clause-shut
returns-clause-shut c = none_shut

pub returns-clause-other : goal.returns-clause-other
returns-clause-other c = found_other
