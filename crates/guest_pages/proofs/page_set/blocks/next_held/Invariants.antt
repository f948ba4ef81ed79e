use Rattle.std.proofs.Common.{◌-◌, ◌≤◌, length}
use Rattle.guest_pages.specs.Flat.{AreFree, reserved_of}
use Rattle.guest_pages.proofs.page_set.blocks.next_held.Given as goal

abbrev pub invariant-loop-number : goal.invariant-loop-number
invariant-loop-number l = record {
  free : AreFree (reserved_of l.pages) l.from l.number;
  on : l.from ≤ l.number;
}

abbrev pub decreases-loop-number : goal.decreases-loop-number
decreases-loop-number l = length l.pages - l.number
