use Rattle.std.proofs.Common.{arith}
use Rattle.diff_convert.proofs.converting.pages_of.Goals as goal

pub returns-in-Ok-clause-few : goal.returns-in-Ok-clause-few
returns-in-Ok-clause-few g c = omega (arith, c.in-Ok.ensures.count, c.ranges.count)
