use Rattle.std.proofs.Common.{ap, sym, ◌∙◌}
use Rattle.rv_rows.specs.Loads.{width_bytes}
use Rattle.guest_pages.specs.Pages.{PageValue, is_within, page_read}
use Rattle.guest_pages.specs.Slots.{shown}
use Rattle.guest_pages.proofs.Blanks.{no_bytes, zeros_read}
use Rattle.guest_pages.proofs.slot.Slot.read_word.Goals as goal

pub returns-in-Unmade : goal.returns-in-Unmade
returns-in-Unmade c =
    let now = sym (ap shown c.in-Unmade.is) ∙ c.self.view_is in
    let width = width_bytes c.args.width in
    no_bytes width
    ∙ sym (zeros_read c.in-Unmade.field-0 c.args.at width (ap (λ (p : PageValue). is_within p.number 4096 c.args.at width) now ∙ c.requires))
    ∙ ap (λ (p : PageValue). page_read p c.args.at width) now
