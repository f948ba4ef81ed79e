use Rattle.monitor_plans.proofs.Heads.{head_is}
use Rattle.monitor_plans.proofs.heading.head_of.Goals as goal

pub returns : goal.returns
returns c =
    head_is c.args.identity c.args.pages c.new.result c.in_ok-head.head.items c.from_vec.result c.new.ensures
    c.in_ok-head.ensures.bytes c.from_vec.ensures
