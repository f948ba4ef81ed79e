use Rattle.token_bucket.proofs.Lives.{lives_on, needs_in_order}
use Rattle.token_bucket.proofs.law.life_goes_on.Goals as goal

pub returns-clause-passed : goal.returns-clause-passed
returns-clause-passed c = lives_on

pub returns-clause-in_order : goal.returns-clause-in_order
returns-clause-in_order c = needs_in_order
