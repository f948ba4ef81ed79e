use Rattle.std.proofs.Common.{◌≡◌, ◌-◌, ◌≤◌, length, take}
use Rattle.guest_pages.specs.Pages.{flat_of, loaded, marks_of}
use Rattle.guest_pages.proofs.page_set.PageSet.load.Given as goal

abbrev pub invariant-loop-done : goal.invariant-loop-done
invariant-loop-done l = record {
  some : l.done ≤ length l.block;
  memory : flat_of l.self.pages ≡ loaded l.offset (take l.done l.block) (flat_of l.initial.self.pages);
  marks : marks_of l.self.pages ≡ marks_of l.initial.self.pages;
  pages : length l.self.pages ≡ length l.initial.self.pages;
  spare : l.self.spare ≡ l.initial.self.spare;
}

abbrev pub decreases-loop-done : goal.decreases-loop-done
decreases-loop-done l = length l.block - l.done
