use Rattle.guest_pages.specs.Pages.{marks_of}
use Rattle.guest_pages.proofs.Blocks.{AreSummedTo}
use Rattle.guest_pages.proofs.page_set.blocks.note_all.Given as goal

abbrev pub invariant-loop-number : goal.invariant-loop-number
invariant-loop-number l = AreSummedTo l.number (marks_of l.pages) l.blocks.items
