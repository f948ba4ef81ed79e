use Rattle.snapshot_merge.proofs.InOrder.{all_merged, some_merged}
use Rattle.snapshot_merge.proofs.law.merged_in_order.Goals as goal

pub returns-clause-some : goal.returns-clause-some
returns-clause-some c = some_merged

pub returns-clause-last : goal.returns-clause-last
returns-clause-last c = all_merged
