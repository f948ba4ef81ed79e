use Rattle.std.proofs.Common.{◌-◌, ◌∙◌, sym, ap, true}
use Rattle.guest_memory.specs.Memory.{put_at}
use Rattle.le_fields.specs.Fields.{bytes_of}
use Rattle.rv_rows.specs.Loads.{width_bytes}
use Rattle.guest_pages.specs.Pages.{PageValue, page_start, page_written}
use Rattle.guest_pages.specs.declared.page.Held.{Held}
use Rattle.guest_pages.proofs.Ending.{only_bytes}
use Rattle.guest_pages.proofs.page.Page.write_marked.Goals as goal

pub returns-clause-written : goal.returns-clause-written
returns-clause-written c = λ is writer.
    let i = c.self.inside in
    let held = c.deref_mut.ensures.value in
    let piece = bytes_of (width_bytes c.args.width) c.args.word in
    ap (λ (h : Held). record { number = h.number; bytes = c.put_word.new.bytes; reserved = h.reserved; marked = h.marked; made = true }) held
    ∙ only_bytes i.held.value writer c.args.at c.offset_in-offset.result piece c.put_word.new.bytes
    (sym (ap (λ (h : Held). h.marked) c.deref.ensures) ∙ c.if-not-deref.false)
    (sym c.if-deref-ne0.false ∙ ap (λ (h : Held). h.holders) c.deref-else-not-deref.ensures ∙ c.self.invariant.2)
    (c.offset_in-offset.ensures ∙ ap (λ (h : Held). c.args.at - page_start h.number) c.deref-2.ensures)
    (c.put_word.ensures ∙ ap (λ (h : Held). put_at h.bytes c.offset_in-offset.result piece) held)
    ∙ ap (λ (p : PageValue). page_written p writer c.args.at piece) c.self.view_is
