use Rattle.std.proofs.Common.{◌≡◌, take}
use Rattle.world_copy.proofs.copying.states_of.Given as goal

abbrev pub invariant-loop-state : goal.invariant-loop-state
invariant-loop-state l = l.items ≡ take l.state-index l.states
