use Rattle.std.proofs.Common.{◌/◌}
use Rattle.guest_pages.proofs.Reserved.{unreserved_page}
use Rattle.guest_pages.proofs.page_set.blocks.note_held.Goals as goal

pub returns-in-None-clause-own : goal.returns-in-None-clause-own
returns-in-None-clause-own c = λ is. unreserved_page c.args.page.now.reserved c.args.held.now.items (c.args.number / 64) c.in-None.ensures.slots is
