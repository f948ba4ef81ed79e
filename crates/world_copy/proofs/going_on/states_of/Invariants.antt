use Rattle.std.proofs.Common.{◌≡◌, take}
use Rattle.world_copy.proofs.going_on.states_of.Given as goal

abbrev pub invariant-loop-state : goal.invariant-loop-state
invariant-loop-state l = l.states.items ≡ take l.state-index l.saved
