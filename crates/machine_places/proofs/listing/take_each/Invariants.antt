use Rattle.std.proofs.Common.{◌≡◌, ◌≤◌, ◌++◌, None, length, map, vec_capacity}
use Rattle.std.specs.Vec.Iter.{into_iter_items, into_iter_len}
use Rattle.machine_places.specs.Laid.{board_in, pages_in, place_of, ports_in}
use Rattle.machine_places.proofs.listing.take_each.Given as goal

abbrev pub invariant-loop-held : goal.invariant-loop-held
invariant-loop-held l = record {
  pages : l.pages.items ++ pages_in (map place_of (into_iter_items l.rest)) ≡ pages_in (map place_of l.fn.places.items);
  ports : l.ports.items ++ ports_in (map place_of (into_iter_items l.rest)) ≡ ports_in (map place_of l.fn.places.items);
  board : board_in l.board (map place_of (into_iter_items l.rest)) ≡ board_in None (map place_of l.fn.places.items);
  page_room : length (pages_in (map place_of l.fn.places.items)) ≤ vec_capacity l.pages;
  port_room : length (ports_in (map place_of l.fn.places.items)) ≤ vec_capacity l.ports;
}

abbrev pub decreases-loop-held : goal.decreases-loop-held
decreases-loop-held l = into_iter_len l.rest
