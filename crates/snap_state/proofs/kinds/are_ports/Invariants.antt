use Rattle.std.proofs.Common.{◌≡◌, drop, map}
use Rattle.snap_state.specs.Valid.{are_kinds, kinds_of, port_kind}
use Rattle.snap_state.proofs.kinds.are_ports.Given as goal

abbrev pub invariant-loop-number : goal.invariant-loop-number
invariant-loop-number l =
    are_kinds (kinds_of l.configuration l.entropy) l.number (map port_kind (drop l.number l.ports))
    ≡ are_kinds (kinds_of l.configuration l.entropy) 0 (map port_kind l.ports)
