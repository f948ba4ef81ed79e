use Rattle.std.proofs.Common.{rules}
use Rattle.guest_pages.proofs.page.Page.hold.Goals as goal

pub returns : goal.returns
returns c = search rules
