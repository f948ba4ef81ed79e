use Rattle.std.proofs.Common.{rules}
use Rattle.vm_world.proofs.step_error.refusal_of.Goals as goal

pub returns-in-None : goal.returns-in-None
returns-in-None c = search rules
