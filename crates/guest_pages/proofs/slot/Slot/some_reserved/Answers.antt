use Rattle.std.proofs.Common.{ap, sym, ◌∙◌}
use Rattle.guest_pages.specs.Pages.{PageValue}
use Rattle.guest_pages.specs.Slots.{shown}
use Rattle.guest_pages.proofs.Blanks.{none_reserved}
use Rattle.guest_pages.proofs.slot.Slot.some_reserved.Goals as goal

pub returns-in-Unmade-clause-slots : goal.returns-in-Unmade-clause-slots
returns-in-Unmade-clause-slots c =
    let now = sym (ap shown c.in-Unmade.is) ∙ c.self.view_is in
    ap (λ (p : PageValue). p.reserved) (sym now) ∙ none_reserved c.in-Unmade.field-0
