use Rattle.restored_chain.proofs.Merges.{calls_merged}
use Rattle.restored_chain.proofs.law.calls_merge.Goals as goal

pub returns : goal.returns
returns c = calls_merged
