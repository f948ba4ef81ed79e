use Rattle.std.proofs.Common.{◌≡◌, ◌++◌}
use Rattle.std.specs.Vec.Iter.{into_iter_items, into_iter_len}
use Rattle.world_copy.proofs.attached.ports_of.Given as goal

abbrev pub invariant-loop-port : goal.invariant-loop-port
invariant-loop-port l = l.ports.items ++ into_iter_items l.rest ≡ l.fn.kept.items

abbrev pub decreases-loop-port : goal.decreases-loop-port
decreases-loop-port l = into_iter_len l.rest
