use Rattle.std.proofs.Common.{◌∙◌, sym, ap, arith}
use Rattle.guest_pages.specs.Pages.{PageValue}
use Rattle.guest_pages.proofs.Loading.{bytes_there}
use Rattle.guest_pages.proofs.Making.{count_of, the_pages}
use Rattle.guest_pages.proofs.page_set.PageSet.page_bytes.Goals as goal

pub returns-clause-bytes : goal.returns-clause-bytes
returns-clause-bytes c =
    c.bytes.ensures.bytes
    ∙ ap (λ (p : PageValue). p.bytes) c.index.ensures
    ∙ bytes_there c.args.self.now.pages c.self.inside.pages.items c.args.number c.index.result.now (ap the_pages (sym c.self.view_is)) c.self.invariant.are (omega (arith, ap count_of c.self.view_is))
