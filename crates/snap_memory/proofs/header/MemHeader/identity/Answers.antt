use Rattle.std.proofs.Common.{rules}
use Rattle.snap_memory.proofs.header.MemHeader.identity.Goals as goal

pub loop-slot-init : goal.loop-slot-init
loop-slot-init c = search rules
