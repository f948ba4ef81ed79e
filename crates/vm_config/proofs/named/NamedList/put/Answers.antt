use Rattle.std.proofs.Common.{◌∙◌}
use Rattle.vm_config.proofs.NamedLemmas.{puts_known, puts_new}
use Rattle.vm_config.proofs.named.NamedList.put.Goals as goal

pub returns-in-Some-clause-ok : goal.returns-in-Some-clause-ok
returns-in-Some-clause-ok g c =
    puts_known g.T.Named.id_of c.self.inside.things.items c.deref.result.now c.args.self.now c.args.thing c.id.result.now c.in-Some.place
    c.self.view_is c.in-Some.ensures c.id.ensures (c.deref.ensures.value ∙ c.self.view_is)

pub returns-in_ok-push-in-None-clause-ok : goal.returns-in_ok-push-in-None-clause-ok
returns-in_ok-push-in-None-clause-ok g c =
    puts_new g.T.Named.id_of c.push.new.self.items c.self.inside.things.items c.deref.result.now c.args.self.now c.args.thing c.id.result.now
    c.in_ok-push-in-None.ensures.items c.self.view_is c.in-None.ensures c.id.ensures (c.deref.ensures.value ∙ c.self.view_is)
