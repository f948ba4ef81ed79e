use Rattle.guest_pages.proofs.Copying.{in_page}
use Rattle.guest_pages.proofs.reading.piece.Goals as goal

pub returns-clause-bytes : goal.returns-clause-bytes
returns-clause-bytes c = in_page _ c.page_bytes.result.now c.args.from c.args.count c.page_bytes.ensures.bytes c.requires.inside
