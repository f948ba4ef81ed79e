use Rattle.std.proofs.Common.{◌≡◌, ◌-◌, length, drop}
use Rattle.guest_pages.specs.Flat.{AreSummed}
use Rattle.guest_pages.specs.Marks.{marked_from}
use Rattle.guest_pages.specs.Pages.{cleared, marks_of}
use Rattle.guest_pages.proofs.page_set.blocks.clear_all.Given as goal

abbrev pub invariant-loop-number : goal.invariant-loop-number
invariant-loop-number l = record {
  same : cleared l.pages ≡ cleared l.initial.pages;
  rest : marked_from 0 (marks_of l.pages) ≡ marked_from l.from (drop l.from (marks_of l.pages));
  summed : AreSummed (marks_of l.pages) l.blocks;
}

abbrev pub decreases-loop-number : goal.decreases-loop-number
decreases-loop-number l = length l.pages - l.from
