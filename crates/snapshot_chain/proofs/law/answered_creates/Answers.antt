use Rattle.snapshot_chain.proofs.Answered.{some_saving}
use Rattle.snapshot_chain.proofs.law.answered_creates.Goals as goal

pub returns : goal.returns
returns c = some_saving
