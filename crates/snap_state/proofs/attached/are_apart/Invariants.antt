use Rattle.std.proofs.Common.{◌≡◌, length}
use Rattle.vm_config.specs.Named.{are_apart}
use Rattle.snap_state.proofs.attached.are_apart.Given as goal

abbrev pub invariant-loop-first : goal.invariant-loop-first
invariant-loop-first g l = are_apart g.T.Named.id_of l.left ≡ are_apart g.T.Named.id_of l.things

abbrev pub decreases-loop-first : goal.decreases-loop-first
decreases-loop-first g l = length l.left
