use Rattle.std.proofs.Common.{◌≡◌, ◌+◌, length, vec_capacity}
use Rattle.guest_pages.proofs.page_set.room.move_all.Given as goal

abbrev pub invariant-loop-blank : goal.invariant-loop-blank
invariant-loop-blank l = record {
  all : length l.to.items + length l.from.items ≡ length l.initial.to.items + length l.initial.from.items;
  room : vec_capacity l.to ≡ vec_capacity l.initial.to;
}

abbrev pub decreases-loop-blank : goal.decreases-loop-blank
decreases-loop-blank l = length l.from.items
