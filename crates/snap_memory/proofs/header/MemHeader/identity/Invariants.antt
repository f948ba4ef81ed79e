use Rattle.std.proofs.Common.{◌≡◌, drop}
use Rattle.snap_memory.specs.Headers.{last_identity}
use Rattle.snap_memory.proofs.header.MemHeader.identity.Given as goal

abbrev pub invariant-loop-slot : goal.invariant-loop-slot
invariant-loop-slot l = last_identity l.identity (drop l.slot-index l.slot-items) ≡ last_identity l.fn.self.made_as l.fn.self.slots
