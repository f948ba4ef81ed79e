use Rattle.snapshot_merge.proofs.Overlaid.{from_slot, from_start, is_begun, is_foreign}
use Rattle.snapshot_merge.proofs.law.merged.Goals as goal

pub returns-clause-begun : goal.returns-clause-begun
returns-clause-begun c = λ given file m d is diff joins left. is_begun given file m d is diff joins.pages joins.parent left

pub returns-clause-whole : goal.returns-clause-whole
returns-clause-whole c = λ given file m d is diff joins left. from_start given file is.head m d is.holds diff joins.pages left

pub returns-clause-gone_on : goal.returns-clause-gone_on
returns-clause-gone_on c = λ given file head m d slot holds diff pages there same. from_slot given file head m d holds diff pages slot there same

pub returns-clause-again : goal.returns-clause-again
returns-clause-again c = λ given file m d is diff pages other. is_foreign given file m d is diff pages other
