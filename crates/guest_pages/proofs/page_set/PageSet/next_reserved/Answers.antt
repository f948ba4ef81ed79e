use Rattle.std.proofs.Common.{◌≡◌, List, length, ap, sym, subst, arith, rules}
use Rattle.guest_pages.specs.Flat.{AreFree, reserved_of}
use Rattle.guest_pages.specs.Pages.{PageValue}
use Rattle.guest_pages.proofs.Making.{the_pages}
use Rattle.guest_pages.proofs.Reserved.{free_slots}
use Rattle.guest_pages.proofs.page_set.PageSet.next_reserved.Goals as goal

pub returns-clause-none : goal.returns-clause-none
returns-clause-none c =
    let same : c.deref.result.now ≡ c.self.inside.pages.items = search rules in
    free_slots c.args.self.now.pages c.self.inside.pages.items c.args.from c.next_held.result (ap the_pages (sym c.self.view_is)) c.self.invariant.are
    c.next_held.ensures.on (omega (arith, c.next_held.ensures.most, ap (λ (l : List PageValue). length l) same))
    (subst (λ (l : List PageValue). AreFree (reserved_of l) c.args.from c.next_held.result) same c.next_held.ensures.free)
