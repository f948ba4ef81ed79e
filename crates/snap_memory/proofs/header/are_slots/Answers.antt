use Rattle.std.proofs.Common.{rules}
use Rattle.snap_memory.proofs.header.are_slots.Goals as goal

pub returns-then-slot-ne1 : goal.returns-then-slot-ne1
returns-then-slot-ne1 c = search rules
