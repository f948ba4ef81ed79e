use Rattle.std.proofs.Common.{sym}
use Rattle.vm_world.proofs.world.World.step.Goals as goal

pub step_with-requires : goal.step_with-requires
step_with-requires c = sym c.in-Some.ensures.state
