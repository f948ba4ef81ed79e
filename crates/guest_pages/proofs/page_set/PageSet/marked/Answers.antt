use Rattle.std.proofs.Common.{◌≡◌, Bool, List, sym, subst, rules}
use Rattle.guest_pages.specs.Flat.{AreSummed}
use Rattle.guest_pages.specs.Pages.{PageValue, marks_of}
use Rattle.guest_pages.proofs.page_set.PageSet.marked.Goals as goal

pub marked_in-requires-clause-summed : goal.marked_in-requires-clause-summed
marked_in-requires-clause-summed c =
    let pages : c.deref.result.now ≡ c.self.inside.pages.items = search rules in
    let flags : c.deref-2.result.now ≡ c.self.inside.blocks.items = search rules in
    subst (λ (l : List PageValue). AreSummed (marks_of l) c.deref-2.result.now) (sym pages)
    (subst (λ (blocks : List Bool). AreSummed (marks_of c.self.inside.pages.items) blocks) (sym flags) c.self.invariant.summed)
