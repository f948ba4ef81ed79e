use Rattle.std.proofs.Common.{◌≡◌, ◌-◌, ◌≤◌, ◌++◌, length, take, drop}
use Rattle.guest_pages.specs.Pages.{flat_of}
use Rattle.guest_pages.proofs.reading.copy_pages.Given as goal

abbrev pub invariant-loop-done : goal.invariant-loop-done
invariant-loop-done l = record {
  some : l.done ≤ length l.initial.out;
  copied : l.out ≡ take l.done (drop l.offset (flat_of l.pages.pages).bytes) ++ drop l.done l.initial.out;
}

abbrev pub decreases-loop-done : goal.decreases-loop-done
decreases-loop-done l = length l.initial.out - l.done
