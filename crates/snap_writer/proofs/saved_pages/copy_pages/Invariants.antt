use Rattle.std.proofs.Common.{◌≡◌, ◌*◌, ◌++◌, take, drop}
use Rattle.guest_pages.specs.Pages.{flat_of}
use Rattle.snap_diff.specs.Copies.{pages_at}
use Rattle.snap_writer.proofs.saved_pages.copy_pages.Given as goal

abbrev pub invariant-loop-page : goal.invariant-loop-page
invariant-loop-page l =
    l.out ≡ take (4096 * l.page) (drop (4096 * l.first) (pages_at l.numbers (flat_of l.memory.pages).bytes))
    ++ drop (4096 * l.page) l.initial.out
