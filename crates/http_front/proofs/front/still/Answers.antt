use Rattle.std.proofs.Common.{subst}
use Rattle.http_front.specs.Told.{Holds}
use Rattle.http_front.proofs.TooFew.{too_few_more}
use Rattle.http_front.proofs.front.still.Goals as goal

pub returns-in-TooFew : goal.returns-in-TooFew
returns-in-TooFew c = λ stream more spans holds.
    too_few_more stream more c.in-TooFew.count (subst (λ k. Holds stream spans k) c.in-TooFew.is holds)
