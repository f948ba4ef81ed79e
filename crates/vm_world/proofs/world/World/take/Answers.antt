use Rattle.std.proofs.Common.{ap, arith, length, rules}
use Rattle.guest_pages.specs.Made.{PagesValue}
use Rattle.vm_world.proofs.world.World.take.Goals as goal

pub invariant_of-self : goal.invariant_of-self
invariant_of-self c = (omega (arith, ap (λ (v : PagesValue). length v.pages) c.take_pages.ensures.left), search rules)
