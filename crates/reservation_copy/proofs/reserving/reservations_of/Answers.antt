use Rattle.std.proofs.Common.{◌+◌, ◌++◌, List, ap, arith}
use Rattle.guest_pages.specs.Pages.{flat_of}
use Rattle.snap_state.specs.declared.copy.Reservation.{Reservation}
use Rattle.flat_snapshot.specs.Copies.{reservations_from}
use Rattle.reservation_copy.proofs.Listed.{pages_free}
use Rattle.reservation_copy.proofs.reserving.reservations_of.Goals as goal

pub loop-page-init : goal.loop-page-init
loop-page-init c =
    let slots = (flat_of c.args.pages.now.pages).reserved in
    record {
      rest = pages_free c.new-items.result 0 c.next_reserved-page.result slots (reservations_from 0 slots) (omega arith) c.next_reserved-page.ensures.none
          (ap (λ (l : List Reservation). l ++ reservations_from 0 slots) c.new-items.ensures);
      most = c.next_reserved-page.ensures.most;
    }

pub loop-page-preserved : goal.loop-page-preserved
loop-page-preserved c =
    let slots = (flat_of c.args.pages.now.pages).reserved in
    record {
      rest = pages_free c.add_reserved.new.items (c.loop-page.page + 1) c.next_reserved-page-in-loop-page.result slots (reservations_from 0 slots)
          c.next_reserved-page-in-loop-page.ensures.on c.next_reserved-page-in-loop-page.ensures.none
          (c.in_ok-add_reserved.ensures (reservations_from 0 slots) c.loop-page.invariant.rest);
      most = c.next_reserved-page-in-loop-page.ensures.most;
    }
