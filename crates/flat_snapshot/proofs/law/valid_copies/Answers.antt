use Rattle.flat_snapshot.proofs.CarriedReady.{carried_ready}
use Rattle.flat_snapshot.proofs.Ready.{valid_copy, whole_copy}
use Rattle.flat_snapshot.proofs.law.valid_copies.Goals as goal

pub returns-clause-valid : goal.returns-clause-valid
returns-clause-valid c = valid_copy

pub returns-clause-whole : goal.returns-clause-whole
returns-clause-whole c = whole_copy

pub returns-clause-carried : goal.returns-clause-carried
returns-clause-carried c = λ copy bytes tracking valid whole. carried_ready copy bytes tracking valid whole
