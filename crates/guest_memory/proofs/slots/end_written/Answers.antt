use Rattle.std.proofs.Common.{arith}
use Rattle.guest_memory.proofs.Ending.{slot_done}
use Rattle.guest_memory.proofs.slots.end_written.Goals as goal

pub loop-i-preserved : goal.loop-i-preserved
loop-i-preserved c =
    slot_done c.args.writer c.args.at c.args.len c.args.first c.loop-i.i c.args.slots.now c.loop-i.slots _ c.slot_after.result (omega arith) c.loop-i.invariant c.slot_after.ensures
