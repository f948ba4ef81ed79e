use Rattle.std.proofs.Common.{ap, sym, length, ◌∙◌}
use Rattle.guest_pages.specs.Pages.{PageValue, page_touch}
use Rattle.guest_pages.specs.Slots.{shown}
use Rattle.guest_pages.proofs.Blanks.{back, put_in, replied, takes_none, unchanged}
use Rattle.guest_pages.proofs.slot.Slot.act.Goals as goal

pub of-requires : goal.of-requires
of-requires c = back c.in-Unmade.number c.into_page-page.result c.act-reply-in-Unmade.new.self c.args.actor c.args.op.now c.act-reply-in-Unmade.result c.leaves.result c.into_page-page.ensures c.act-reply-in-Unmade.ensures.value c.act-reply-in-Unmade.ensures.reply c.leaves.ensures c.if-leaves.false

pub returns-in-Made-clause-takes : goal.returns-in-Made-clause-takes
returns-in-Made-clause-takes c =
    let now = sym (ap shown c.in-Made.is) ∙ c.self.view_is in
    takes_none c.args.self.now c.act-reply.new.self (length c.args.spare.now.items)
    (ap (λ (p : PageValue). p.made) (sym now) ∙ sym c.is_made-was.ensures.value ∙ c.is_made-was.ensures.made)
    (sym c.is_made-is.ensures.value ∙ c.is_made-is.ensures.made)

pub returns-else-leaves-clause-reply : goal.returns-else-leaves-clause-reply
returns-else-leaves-clause-reply c =
    let now = sym (ap shown c.in-Unmade.is) ∙ c.self.view_is in
    replied c.in-Unmade.number c.into_page-page.result c.act-reply-in-Unmade.new.self c.args.actor c.args.op.now c.act-reply-in-Unmade.result c.leaves.result c.into_page-page.ensures c.act-reply-in-Unmade.ensures.value c.act-reply-in-Unmade.ensures.reply c.leaves.ensures ∙ ap (λ (p : PageValue). (page_touch p c.args.actor c.args.op.now).0) now

pub returns-else-leaves-clause-page : goal.returns-else-leaves-clause-page
returns-else-leaves-clause-page c =
    let now = sym (ap shown c.in-Unmade.is) ∙ c.self.view_is in
    unchanged c.in-Unmade.number c.into_page-page.result c.act-reply-in-Unmade.new.self c.args.actor c.args.op.now c.act-reply-in-Unmade.result c.leaves.result c.into_page-page.ensures c.act-reply-in-Unmade.ensures.value c.act-reply-in-Unmade.ensures.reply c.leaves.ensures c.if-leaves.false ∙ ap (λ (p : PageValue). (page_touch p c.args.actor c.args.op.now).1) now

pub returns-then-leaves-clause-reply : goal.returns-then-leaves-clause-reply
returns-then-leaves-clause-reply c =
    let now = sym (ap shown c.in-Unmade.is) ∙ c.self.view_is in
    replied c.in-Unmade.number c.into_page-page.result c.act-reply-in-Unmade.new.self c.args.actor c.args.op.now c.act-reply-in-Unmade.result c.leaves.result c.into_page-page.ensures c.act-reply-in-Unmade.ensures.value c.act-reply-in-Unmade.ensures.reply c.leaves.ensures ∙ ap (λ (p : PageValue). (page_touch p c.args.actor c.args.op.now).0) now

pub returns-then-leaves-clause-page : goal.returns-then-leaves-clause-page
returns-then-leaves-clause-page c =
    let now = sym (ap shown c.in-Unmade.is) ∙ c.self.view_is in
    c.put.ensures.page ∙ put_in c.in-Unmade.number c.into_page-page.result c.act-reply-in-Unmade.new.self c.args.actor c.args.op.now c.act-reply-in-Unmade.result c.leaves.result c.into_page-page.ensures c.act-reply-in-Unmade.ensures.value c.act-reply-in-Unmade.ensures.reply c.leaves.ensures c.if-leaves.true ∙ ap (λ (p : PageValue). (page_touch p c.args.actor c.args.op.now).1) now
