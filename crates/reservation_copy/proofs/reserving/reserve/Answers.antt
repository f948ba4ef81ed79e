use Rattle.std.proofs.Common.{rules}
use Rattle.vm_types.specs.declared.ids.PlaceId.{PlaceId}
use Rattle.reservation_copy.proofs.Rooms.{room_first}
use Rattle.reservation_copy.proofs.reserving.reserve.Goals as goal

pub hold-requires-clause-ready : goal.hold-requires-clause-ready
hold-requires-clause-ready c =
    room_first c.in-Some.first.now c.loop-first.left.now c.in-Some.others.now c.loop-first.pages (PlaceId.Page c.in-Some.first.now.page)
    c.in-Some.ensures.cases.0 c.loop-first.invariant.room

pub returns-clause-bytes : goal.returns-clause-bytes
returns-clause-bytes c = search rules
