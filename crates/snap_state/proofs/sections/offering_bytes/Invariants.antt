use Rattle.std.proofs.Common.{◌≡◌, ◌++◌, length, map, take}
use Rattle.std.specs.Int.{to_le_bytes, w32}
use Rattle.snap_state.specs.Sections.{offering_byte}
use Rattle.snap_state.proofs.sections.offering_bytes.Given as goal

abbrev pub invariant-loop-port : goal.invariant-loop-port
invariant-loop-port l = l.bytes ≡ to_le_bytes w32 (length l.ports) ++ map offering_byte (take l.port-index l.ports)
