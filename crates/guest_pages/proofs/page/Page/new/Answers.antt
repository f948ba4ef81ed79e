use Rattle.guest_pages.proofs.Sets.{page_is}
use Rattle.guest_pages.proofs.page.Page.new.Goals as goal

pub returns : goal.returns
returns c =
    let held = c.in_ok-held.held.value in
    page_is held.number c.args.number held.bytes held.reserved held.marked
    c.in_ok-held.ensures.number c.in_ok-held.ensures.bytes c.in_ok-held.ensures.reserved c.in_ok-held.ensures.unmarked
