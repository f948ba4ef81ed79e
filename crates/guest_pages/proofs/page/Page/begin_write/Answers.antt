use Rattle.std.proofs.Common.{ℕ, ◌*◌, ◌∙◌, List, Option, sym, ap, true}
use Rattle.guest_memory.specs.Reserved.{slots_after}
use Rattle.guest_pages.specs.Pages.{PageValue}
use Rattle.guest_pages.specs.declared.page.Held.{Held}
use Rattle.guest_pages.proofs.Ending.{nothing_ends}
use Rattle.guest_pages.proofs.page.Page.begin_write.Goals as goal

pub returns-then-deref-eq0 : goal.returns-then-deref-eq0
returns-then-deref-eq0 c =
    let i = c.self.inside in
    let held = c.deref_mut.ensures.value in
    ap (λ (h : Held). record { number = h.number; bytes = h.bytes; reserved = h.reserved; marked = true; made = true }) held
    ∙ ap (λ (slots : List (Option ℕ)). record { number = i.held.value.number; bytes = i.held.value.bytes; reserved = slots; marked = true; made = true })
    (nothing_ends c.args.writer c.args.at c.args.len (32 * i.held.value.number) i.held.value.reserved
    (sym c.if-deref-eq0.true ∙ ap (λ (h : Held). h.holders) c.deref.ensures ∙ ap (λ (h : Held). h.holders) held ∙ c.self.invariant.2))
    ∙ ap (λ (p : PageValue). record p { reserved = slots_after c.args.writer c.args.at c.args.len (32 * p.number) p.reserved; marked = true; made = true }) c.self.view_is
