use Rattle.std.proofs.Common.{◌∙◌, sym, ap, arith}
use Rattle.guest_pages.proofs.Making.{count_of, is_made_there, the_pages}
use Rattle.guest_pages.proofs.page_set.PageSet.is_made.Goals as goal

pub returns : goal.returns
returns c =
    c.is_made.ensures
    ∙ is_made_there c.args.self.now.pages c.self.inside.pages.items c.args.number c.index.result.now (ap the_pages (sym c.self.view_is)) (omega (arith, ap count_of c.self.view_is, c.self.inside.pages.ok, c.if-number-len.false)) c.index.ensures
