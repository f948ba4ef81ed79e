use Rattle.flat_snapshot.proofs.Unwritten.{keeps_joined, one_keeps, several_keep}
use Rattle.flat_snapshot.proofs.law.unwritten_pages.Goals as goal

pub returns-clause-one : goal.returns-clause-one
returns-clause-one c = one_keeps

pub returns-clause-several : goal.returns-clause-several
returns-clause-several c = several_keep

pub returns-clause-joined : goal.returns-clause-joined
returns-clause-joined c = keeps_joined
