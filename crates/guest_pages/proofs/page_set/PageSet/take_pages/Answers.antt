use Rattle.std.proofs.Common.{◌≡◌, List, [], length, refl, sym, ap, subst, arith, rules}
use Rattle.guest_pages.specs.Flat.{ArePages, AreSummed, reserved_of}
use Rattle.guest_pages.specs.Made.{unmade}
use Rattle.guest_pages.specs.Pages.{PageValue, marks_of}
use Rattle.guest_pages.proofs.Blocks.{none_summed}
use Rattle.guest_pages.proofs.page_set.PageSet.take_pages.Goals as goal

pub invariant_of-self : goal.invariant_of-self
invariant_of-self c =
    let none : c.replace-pages.new.dest.items ≡ [] = search rules in
    record {
      are = subst (λ (pages : List PageValue). ArePages 0 pages) (sym none) tt;
      owns = omega (arith, c.len-self-inside.ensures, ap (λ (pages : List PageValue). length pages) none, ap unmade none);
      summed = subst (λ (pages : List PageValue). AreSummed (marks_of pages) c.self.inside.blocks.items) (sym none) (none_summed [] c.self.inside.blocks.items 0 refl);
      holds = subst (λ (pages : List PageValue). AreSummed (reserved_of pages) c.self.inside.held.items) (sym none) (none_summed [] c.self.inside.held.items 0 refl);
    }
