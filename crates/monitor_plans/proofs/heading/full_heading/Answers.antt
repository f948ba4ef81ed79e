use Rattle.std.proofs.Common.{refl}
use Rattle.monitor_plans.proofs.heading.full_heading.Goals as goal

pub returns : goal.returns
returns c = record { there = refl; head_is = λ g is. c.in-Ok.ensures; pages_are = λ g is. refl }
