use Rattle.std.proofs.Common.{◌∙◌, sym, ap}
use Rattle.guest_pages.proofs.Making.{marked_there, the_pages}
use Rattle.guest_pages.proofs.page_set.PageSet.is_marked.Goals as goal

pub returns : goal.returns
returns c =
    c.is_marked.ensures
    ∙ marked_there c.args.self.now.pages c.self.inside.pages.items c.args.number c.index.result.now (ap the_pages (sym c.self.view_is)) c.requires c.index.ensures
