use Rattle.std.proofs.Common.{◌≡◌, ◌≤◌, length}
use Rattle.balloon_device.specs.Work.{list_left}
use Rattle.balloon_device.proofs.pages.next_page.Given as goal

abbrev pub invariant-loop-list : goal.invariant-loop-list
invariant-loop-list l =
    (list_left l.pages l.list ≡ list_left l.pages l.fn.list) × (l.list.from ≡ l.fn.list.from)
    × (length l.list.held ≤ length l.fn.list.held)

abbrev pub decreases-loop-list : goal.decreases-loop-list
decreases-loop-list l = length l.list.held
