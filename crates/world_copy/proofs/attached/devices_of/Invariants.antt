use Rattle.std.proofs.Common.{◌≡◌, ◌++◌}
use Rattle.std.specs.Vec.Iter.{into_iter_items, into_iter_len}
use Rattle.world_copy.proofs.attached.devices_of.Given as goal

abbrev pub invariant-loop-device : goal.invariant-loop-device
invariant-loop-device l = l.devices.items ++ into_iter_items l.rest ≡ l.fn.kept.items

abbrev pub decreases-loop-device : goal.decreases-loop-device
decreases-loop-device l = into_iter_len l.rest
