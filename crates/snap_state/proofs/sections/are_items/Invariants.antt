use Rattle.std.proofs.Common.{◌≡◌, drop, map}
use Rattle.std.specs.Str.{bytes_eq}
use Rattle.snap_state.specs.Sections.{offering_byte}
use Rattle.snap_state.proofs.sections.are_items.Given as goal

abbrev pub invariant-loop-port : goal.invariant-loop-port
invariant-loop-port l =
    bytes_eq l.left (map offering_byte (drop l.port-index l.ports)) ≡ bytes_eq l.bytes (map offering_byte l.ports)
