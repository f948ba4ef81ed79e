use Rattle.std.proofs.Common.{ap, false, sym, ◌∙◌}
use Rattle.guest_pages.specs.Pages.{PageValue, patched}
use Rattle.guest_pages.specs.Slots.{shown}
use Rattle.guest_pages.proofs.Blanks.{zeros_patched}
use Rattle.guest_pages.proofs.slot.Slot.patch.Goals as goal

pub returns-then-are_zeros-clause-ok : goal.returns-then-are_zeros-clause-ok
returns-then-are_zeros-clause-ok c =
    let now = sym (ap shown c.in-Unmade.is) ∙ c.self.view_is in
    zeros_patched c.in-Unmade.number c.args.offset c.args.piece.now (sym c.are_zeros.ensures ∙ c.if-are_zeros.true) c.requires
    ∙ ap (λ (p : PageValue). record (patched c.args.offset c.args.piece.now p) { made = false }) now
