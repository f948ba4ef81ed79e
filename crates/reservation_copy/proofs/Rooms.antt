-- Room for each of a list, one after another.
use Rattle.std.proofs.Common.{◌≡◌, ◌+◌, true, List, ◌∷◌, length, ap, arith}
use Rattle.vm_types.specs.declared.ids.PlaceId.{PlaceId}
use Rattle.guest_pages.specs.Made.{HasRoom, PagesValue, Spends, is_ready}
use Rattle.guest_pages.proofs.Making.{less_room, room_left, room_ready}

pub room_first : {A : Type 0} (x : A) (all rest : List A) (old : PagesValue) (place : PlaceId) → all ≡ x ∷ rest → HasRoom (length all) old
    → is_ready old place ≡ true
room_first x all rest old place is room =
    let long : length all ≡ length (x ∷ rest) = ap length is in
    room_ready old place (less_room 1 (length all) old (omega (arith, long)) room)

pub room_next : {A : Type 0} (x : A) (all rest : List A) (old new : PagesValue) → all ≡ x ∷ rest → HasRoom (length all) old
    → Spends 1 old new → HasRoom (length rest) new
room_next x all rest old new is room spends =
    let long : length all ≡ length (x ∷ rest) = ap length is in
    room_left 1 (length rest) old new (less_room (1 + length rest) (length all) old (omega (arith, long)) room) spends
