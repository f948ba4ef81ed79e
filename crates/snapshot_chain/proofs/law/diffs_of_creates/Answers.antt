use Rattle.snapshot_chain.proofs.Created.{lead}
use Rattle.snapshot_chain.proofs.law.diffs_of_creates.Goals as goal

pub returns : goal.returns
returns c = lead
