use Rattle.std.proofs.Common.{ap, sym, ◌∙◌}
use Rattle.guest_pages.specs.declared.page.Held.{Held}
use Rattle.guest_pages.specs.Pages.{PageValue}
use Rattle.guest_pages.proofs.Ending.{none_held}
use Rattle.guest_pages.proofs.page.Page.some_reserved.Goals as goal

pub returns-then-holders-eq0-clause-slots : goal.returns-then-holders-eq0-clause-slots
returns-then-holders-eq0-clause-slots c =
    ap (λ (p : PageValue). p.reserved) (sym c.self.view_is)
    ∙ none_held c.self.inside.held.value.reserved c.self.invariant.1
    (sym c.if-holders-eq0.true ∙ ap (λ (h : Held). h.holders) c.deref.ensures ∙ c.self.invariant.2)
