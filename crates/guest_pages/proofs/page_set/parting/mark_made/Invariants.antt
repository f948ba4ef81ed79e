use Rattle.std.proofs.Common.{◌≡◌, take, vec_capacity}
use Rattle.guest_pages.specs.Made.{made_of}
use Rattle.guest_pages.proofs.page_set.parting.mark_made.Given as goal

abbrev pub invariant-loop-page : goal.invariant-loop-page
invariant-loop-page l = record {
  marked : l.made.items ≡ made_of (take l.page-index l.pages);
  room : vec_capacity l.made ≡ vec_capacity l.initial.made;
}
