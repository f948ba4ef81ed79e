use Rattle.guest_pages.specs.Flat.{reserved_of}
use Rattle.guest_pages.proofs.Blocks.{AreSummedTo}
use Rattle.guest_pages.proofs.page_set.blocks.note_all_held.Given as goal

abbrev pub invariant-loop-number : goal.invariant-loop-number
invariant-loop-number l = AreSummedTo l.number (reserved_of l.pages) l.held.items
