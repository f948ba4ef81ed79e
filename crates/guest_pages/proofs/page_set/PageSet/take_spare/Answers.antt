use Rattle.std.proofs.Common.{arith}
use Rattle.guest_pages.proofs.Each.{all_counted}
use Rattle.guest_pages.proofs.page_set.PageSet.take_spare.Goals as goal

pub invariant_of-self : goal.invariant_of-self
invariant_of-self c = record {
  are = c.self.invariant.are;
  owns = omega (arith, c.self.invariant.owns, c.move_some.ensures.left, all_counted c.self.inside.pages.items);
  summed = c.self.invariant.summed;
  holds = c.self.invariant.holds;
}
