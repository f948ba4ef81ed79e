use Rattle.std.proofs.Common.{◌≡◌, ◌++◌, ◌+◌, ◌*◌, drop}
use Rattle.flat_snapshot.specs.Copies.{reservations_from}
use Rattle.reservation_copy.proofs.reserving.add_page.Given as goal

abbrev pub invariant-loop-hart : goal.invariant-loop-hart
invariant-loop-hart l =
    l.items ++ reservations_from (32 * l.page + l.hart) (drop l.hart l.slots) ≡ l.initial.items ++ reservations_from (32 * l.page) l.slots
