use Rattle.std.proofs.Common.{◌≡◌, take}
use Rattle.vm_config.proofs.named.NamedList.copy_of.Given as goal

abbrev pub invariant-loop-thing : goal.invariant-loop-thing
invariant-loop-thing g l = l.copies.items ≡ take l.thing-index l.things
