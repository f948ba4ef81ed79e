use Rattle.std.proofs.Common.{◌≡◌, ◌-◌, ◌≤◌, length, drop}
use Rattle.guest_pages.specs.Marks.{marked_from}
use Rattle.guest_pages.specs.Pages.{marks_of}
use Rattle.guest_pages.proofs.page_set.blocks.next_marked.Given as goal

abbrev pub invariant-loop-number : goal.invariant-loop-number
invariant-loop-number l = record {
  rest : marked_from l.from (drop l.from (marks_of l.pages)) ≡ marked_from l.number (drop l.number (marks_of l.pages));
  on : l.from ≤ l.number;
}

abbrev pub decreases-loop-number : goal.decreases-loop-number
decreases-loop-number l = length l.pages - l.number
