use Rattle.std.proofs.Common.{◌≡◌, ◌+◌, ◌++◌, length, map, vec_len, vec_capacity, All}
use Rattle.std.specs.Vec.Iter.{into_iter_items, into_iter_len}
use Rattle.vm_types.specs.declared.ids.PlaceId.TheVariants as at
use Rattle.turn_table.specs.Rule.{IsNew}
use Rattle.machine_places.specs.declared.place.MachinePlace.TheVariants as kind
use Rattle.machine_places.specs.Laid.{id_of, ids_from, place_of}
use Rattle.machine_places.proofs.listing.place_pages.Given as goal

abbrev pub invariant-loop-page : goal.invariant-loop-page
invariant-loop-page l = record {
  places : map place_of l.places.items ++ map kind.Page (into_iter_items l.rest) ≡ map place_of l.initial.places.items ++ map kind.Page l.fn.pages.items;
  ids : map id_of l.places.items ≡ map id_of l.initial.places.items ++ ids_from at.Page 0 l.number;
  all : l.number + length (into_iter_items l.rest) ≡ length l.fn.pages.items;
  len : vec_len l.places ≡ vec_len l.initial.places + l.number;
  room : vec_capacity l.places ≡ vec_capacity l.initial.places;
  new : All IsNew l.places.items;
}

abbrev pub decreases-loop-page : goal.decreases-loop-page
decreases-loop-page l = into_iter_len l.rest
