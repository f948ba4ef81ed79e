use Rattle.std.proofs.Common.{◌≡◌, ◌/◌, length}
use Rattle.snap_writer.proofs.ByKind.{Kinded}
use Rattle.snap_writer.proofs.kinds.kinds_of.Given as goal

abbrev pub invariant-loop-i : goal.invariant-loop-i
invariant-loop-i l = record {
  room : length l.page.items ≡ 4096;
  so_far : Kinded l.pages (length l.pages / 4096) l.i l.kinds.items;
}
