use Rattle.std.proofs.Common.{◌≡◌, take}
use Rattle.world_copy.proofs.copying.items_of.Given as goal

abbrev pub invariant-loop-value : goal.invariant-loop-value
invariant-loop-value g l = l.items ≡ take l.value-index l.values
