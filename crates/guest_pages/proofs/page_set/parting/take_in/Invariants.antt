use Rattle.std.proofs.Common.{◌≡◌, ◌≤◌, ◌+◌, length}
use Rattle.guest_pages.proofs.page_set.parting.take_in.Given as goal

-- what is taken in and what is left come to what there was
abbrev pub invariant-loop-rest : goal.invariant-loop-rest
invariant-loop-rest l = record {
  all : length l.spare.items + length l.rest.items ≡ length l.initial.spare.items + length l.fn.from.items;
  more : length l.initial.spare.items ≤ length l.spare.items;
}

abbrev pub decreases-loop-rest : goal.decreases-loop-rest
decreases-loop-rest l = length l.rest.items
