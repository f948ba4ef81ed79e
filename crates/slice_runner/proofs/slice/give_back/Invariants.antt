use Rattle.std.specs.Vec.Iter.{into_iter_len}
use Rattle.vm_world.specs.Worlds.{IsSameButSpare}
use Rattle.slice_runner.proofs.slice.give_back.Given as goal

abbrev pub invariant-loop-pool : goal.invariant-loop-pool
invariant-loop-pool l = IsSameButSpare l.initial.world l.world

abbrev pub decreases-loop-pool : goal.decreases-loop-pool
decreases-loop-pool l = into_iter_len l.rest
