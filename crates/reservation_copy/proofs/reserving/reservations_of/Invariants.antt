use Rattle.std.proofs.Common.{◌≡◌, ◌≤◌, ◌-◌, ◌++◌, ◌*◌, drop, length}
use Rattle.guest_pages.specs.Pages.{flat_of}
use Rattle.flat_snapshot.specs.Copies.{reservations_from}
use Rattle.reservation_copy.proofs.reserving.reservations_of.Given as goal

abbrev pub invariant-loop-page : goal.invariant-loop-page
invariant-loop-page l = record {
  rest : l.items ++ reservations_from (32 * l.page) (drop (32 * l.page) (flat_of l.pages.pages).reserved) ≡ reservations_from 0 (flat_of l.pages.pages).reserved;
  most : l.page ≤ length l.pages.pages;
}

abbrev pub decreases-loop-page : goal.decreases-loop-page
decreases-loop-page l = length l.pages.pages - l.page
