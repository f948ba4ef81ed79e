use Rattle.std.proofs.Common.{◌≡◌, length}
use Rattle.snap_memory.specs.Headers.{are_slots}
use Rattle.snap_memory.proofs.header.are_slots.Given as goal

abbrev pub invariant-loop-slot : goal.invariant-loop-slot
invariant-loop-slot l = are_slots l.left ≡ are_slots l.slots

abbrev pub decreases-loop-slot : goal.decreases-loop-slot
decreases-loop-slot l = length l.left
