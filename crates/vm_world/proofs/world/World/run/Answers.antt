use Rattle.std.proofs.Common.{sym, ◌∙◌}
use Rattle.vm_world.proofs.Events.{is_there, something}
use Rattle.vm_world.proofs.world.World.run.Goals as goal

pub run_actor-requires-clause-want : goal.run_actor-requires-clause-want
run_actor-requires-clause-want c =
    let some = something c.want.result c.if-is_none.ensures in
    (some.0, sym c.want.ensures.state ∙ some.1)

pub returns-in-Hart-clause-there : goal.returns-in-Hart-clause-there
returns-in-Hart-clause-there c = λ g is.
    let some = something c.want.result c.if-is_none.ensures in
    sym (is_there c.args.self.now g c.args.actor some.0 is (sym c.want.ensures.state ∙ some.1))

pub returns-in_default-clause-there : goal.returns-in_default-clause-there
returns-in_default-clause-there c = λ g is.
    let some = something c.want.result c.if-is_none.ensures in
    sym (is_there c.args.self.now g c.args.actor some.0 is (sym c.want.ensures.state ∙ some.1))
