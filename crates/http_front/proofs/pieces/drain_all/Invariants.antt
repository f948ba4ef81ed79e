use Rattle.std.proofs.Common.{◌≡◌, length, false}
use Rattle.http_front.specs.Loops.{Continues}
use Rattle.http_front.proofs.pieces.drain_all.Given as goal

abbrev pub invariant-requests : goal.invariant-requests
invariant-requests l = record {
  live : l.front.failed ≡ false;
  so_far : Continues l.initial.front.pending l.initial.out.items l.out.items l.front;
}

abbrev pub decreases-requests : goal.decreases-requests
decreases-requests l = length l.front.pending
