use Rattle.std.proofs.Common.{◌≡◌, ◌++◌, take, drop}
use Rattle.guest_memory.specs.Reserved.{slots_after}
use Rattle.guest_memory.proofs.slots.end_written.Given as goal

abbrev pub invariant-loop-i : goal.invariant-loop-i
invariant-loop-i l = l.slots ≡ slots_after l.writer l.at l.len l.first (take l.i l.initial.slots) ++ drop l.i l.initial.slots
