use Rattle.std.proofs.Common.{rules}
use Rattle.snap_devices.proofs.form.is_same_queue.Goals as goal

pub returns-then-a-b-6 : goal.returns-then-a-b-6
returns-then-a-b-6 c = search rules
