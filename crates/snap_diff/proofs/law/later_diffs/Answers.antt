use Rattle.snap_diff.proofs.Overlays.{make_last}
use Rattle.snap_diff.proofs.law.later_diffs.Goals as goal

pub returns-clause-joined : goal.returns-clause-joined
returns-clause-joined c first steps last whole lead = (make_last first steps last whole lead).0

pub returns-clause-last : goal.returns-clause-last
returns-clause-last c first steps last whole lead = (make_last first steps last whole lead).1
