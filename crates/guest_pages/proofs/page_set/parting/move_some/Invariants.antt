use Rattle.std.proofs.Common.{◌≡◌, ◌+◌, length, vec_capacity}
use Rattle.guest_pages.proofs.page_set.parting.move_some.Given as goal

abbrev pub invariant-loop : goal.invariant-loop
invariant-loop l = record {
  left : length l.from.items + l.counter ≡ length l.initial.from.items;
  more : length l.to.items ≡ length l.initial.to.items + l.counter;
  room : vec_capacity l.to ≡ vec_capacity l.initial.to;
}
