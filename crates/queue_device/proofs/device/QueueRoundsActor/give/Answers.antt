use Rattle.std.proofs.Common.{rules}
use Rattle.queue_device.proofs.device.QueueRoundsActor.give.Goals as goal

pub returns-then-is_fit : goal.returns-then-is_fit
returns-then-is_fit g c = search rules
