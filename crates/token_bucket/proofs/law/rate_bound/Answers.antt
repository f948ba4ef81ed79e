use Rattle.token_bucket.proofs.Lives.{life_is_bounded}
use Rattle.token_bucket.proofs.law.rate_bound.Goals as goal

pub returns : goal.returns
returns c = life_is_bounded
