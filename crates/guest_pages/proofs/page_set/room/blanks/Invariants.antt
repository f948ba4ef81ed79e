use Rattle.std.proofs.Common.{◌≡◌, ◌≤◌, length, vec_capacity}
use Rattle.guest_pages.proofs.page_set.room.blanks.Given as goal

abbrev pub invariant-loop : goal.invariant-loop
invariant-loop l = record { some : length l.blanks.items ≡ l.counter; room : l.count ≤ vec_capacity l.blanks }
