use Rattle.std.proofs.Common.{◌≡◌, drop, map}
use Rattle.snap_state.specs.Valid.{are_kinds, kind_of, kinds_of}
use Rattle.snap_state.proofs.kinds.are_device_kinds.Given as goal

abbrev pub invariant-loop-number : goal.invariant-loop-number
invariant-loop-number l =
    are_kinds (kinds_of l.configuration l.entropy) l.number (map kind_of (drop l.number l.devices))
    ≡ are_kinds (kinds_of l.configuration l.entropy) 0 (map kind_of l.devices)
