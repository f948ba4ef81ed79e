use Rattle.monitor_plans.proofs.Heads.{body_is, body_saved}
use Rattle.monitor_plans.proofs.creating.body_of.Goals as goal

pub returns-clause-body : goal.returns-clause-body
returns-clause-body c =
    body_is c.args.identity c.args.copy.now c.in_ok-body.body.items c.from_vec.result c.in_ok-body.ensures.encodes c.in_ok-body.ensures.version
    c.from_vec.ensures

pub returns-clause-saved : goal.returns-clause-saved
returns-clause-saved c = body_saved c.args.identity c.args.copy.now c.in_ok-body.body.items c.in_ok-body.ensures.encodes c.in_ok-body.ensures.version
