use Rattle.std.proofs.Common.{◌≡◌, true, length}
use Rattle.std.specs.List.{list_all}
use Rattle.guest_pages.specs.Made.{HasRoom}
use Rattle.guest_pages.specs.Pages.{flat_of, marks_of}
use Rattle.snap_state.specs.Valid.{is_reserved}
use Rattle.flat_snapshot.specs.Carried.{slots_with}
use Rattle.reservation_copy.proofs.reserving.reserve.Given as goal

abbrev pub invariant-loop-first : goal.invariant-loop-first
invariant-loop-first l = record {
  there : list_all (is_reserved (length l.initial.pages.pages) l.harts) l.left ≡ true;
  bytes : (flat_of l.pages.pages).bytes ≡ (flat_of l.initial.pages.pages).bytes;
  reserved : slots_with l.left (flat_of l.pages.pages).reserved ≡ slots_with l.reservations (flat_of l.initial.pages.pages).reserved;
  marks : marks_of l.pages.pages ≡ marks_of l.initial.pages.pages;
  room : HasRoom (length l.left) l.pages;
  count : length l.pages.pages ≡ length l.initial.pages.pages;
}

abbrev pub decreases-loop-first : goal.decreases-loop-first
decreases-loop-first l = length l.left
