use Rattle.std.proofs.Common.{take}
use Rattle.world_copy.specs.GoingOn.{GoOn}
use Rattle.world_copy.proofs.going_on.harts_of.Given as goal

abbrev pub invariant-loop-hart : goal.invariant-loop-hart
invariant-loop-hart l = GoOn (take l.hart-index l.saved) l.harts.items
