use Rattle.std.specs.Prelude.{MatchOption, replicate}
use Rattle.std.proofs.Common.{◌≡◌, ◌∙◌, ℕ, List, Option, None, ap, subst, sym, arith}
use Rattle.guest_pages.specs.Pages.{PageValue}
use Rattle.guest_pages.proofs.Holding.{slots_there}
use Rattle.guest_pages.proofs.Making.{count_of, the_pages}
use Rattle.guest_pages.proofs.page_set.PageSet.some_reserved.Goals as goal

pub returns-clause-slots : goal.returns-clause-slots
returns-clause-slots c =
    let there = ap (λ (p : PageValue). p.reserved) c.index.ensures
    ∙ slots_there c.args.self.now.pages c.self.inside.pages.items c.args.number c.index.result.now (ap the_pages (sym c.self.view_is)) c.self.invariant.are (omega (arith, ap count_of c.self.view_is)) in
    subst (λ (l : List (Option ℕ)). MatchOption c.some_reserved.result (l ≡ replicate 32 None) (λ slots. slots.now ≡ l)) there c.some_reserved.ensures.slots
