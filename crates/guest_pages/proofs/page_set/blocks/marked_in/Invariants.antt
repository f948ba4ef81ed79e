use Rattle.std.proofs.Common.{◌≡◌, ◌-◌, ◌++◌, length, drop}
use Rattle.guest_pages.specs.Marks.{marked_from}
use Rattle.guest_pages.specs.Pages.{marks_of}
use Rattle.guest_pages.proofs.page_set.blocks.marked_in.Given as goal

abbrev pub invariant-loop-number : goal.invariant-loop-number
invariant-loop-number l = l.numbers.items ++ marked_from l.from (drop l.from (marks_of l.pages)) ≡ marked_from 0 (marks_of l.pages)

abbrev pub decreases-loop-number : goal.decreases-loop-number
decreases-loop-number l = length l.pages - l.from
