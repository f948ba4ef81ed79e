use Rattle.vm_world.proofs.Events.{wants_by}
use Rattle.vm_world.proofs.world.World.want.Goals as goal

pub returns-clause-wants : goal.returns-clause-wants
returns-clause-wants c = wants_by c.args.self.now c.args.actor c.want_by.result c.want_by.ensures
