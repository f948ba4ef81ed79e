use Rattle.std.proofs.Common.{◌≡◌, ◌+◌, ◌≤◌, ◌++◌, length, vec_len, vec_capacity, All}
use Rattle.std.specs.Vec.Iter.{into_iter_items, into_iter_len}
use Rattle.stamp_merge.specs.Journals.{all_of}
use Rattle.stamp_merge.specs.Merged.{journals_of}
use Rattle.turn_table.specs.Steps.{IsReady}
use Rattle.turn_work.specs.Work.{HasNoted}
use Rattle.machine_places.specs.Laid.{index_among}
use Rattle.slice_runner.specs.Seats.{IsSeatedIn}
use Rattle.slice_runner.specs.Staff.{journals_from, passes_of, stops_from}
use Rattle.slice_runner.proofs.places.Places.dismiss.Given as goal

abbrev pub invariant-loop-track : goal.invariant-loop-track
invariant-loop-track g l = record {
  ready : IsReady l.self.turns.table.shared.table_id l.self.turns.round l.seat;
  parts : l.seat.me.0.parts + length (into_iter_items l.rest) ≡ l.fn.seat.me.0.parts + length l.fn.tracks.items;
  noted : HasNoted l.fn.seat.me.0.round (index_among l.self.layout) l.seat.me.0 (all_of (journals_of l.home.journals.items));
  seated : All (λ t. IsSeatedIn l.self l.fn.seat.me.0.round t.work) (into_iter_items l.rest);
  passes : l.passes.items ++ passes_of (into_iter_items l.rest) ≡ passes_of l.fn.tracks.items;
  journals : l.home.journals.items ++ journals_from (into_iter_items l.rest) ≡ journals_from l.fn.tracks.items;
  stops : l.home.stops.items ++ stops_from (into_iter_items l.rest) ≡ stops_from l.fn.tracks.items;
  others : (l.home.harts ≡ l.fn.home.harts) × (l.home.devices ≡ l.fn.home.devices);
  room_passes : vec_len l.passes + length (into_iter_items l.rest) + length l.fn.left.items ≤ vec_capacity l.passes;
  room_journals : vec_len l.home.journals + length (into_iter_items l.rest) ≤ vec_capacity l.home.journals;
  room_stops : vec_len l.home.stops + length (into_iter_items l.rest) ≤ vec_capacity l.home.stops;
  room_pools : vec_len l.home.pools + length (into_iter_items l.rest) ≤ vec_capacity l.home.pools;
}

abbrev pub decreases-loop-track : goal.decreases-loop-track
decreases-loop-track g l = into_iter_len l.rest

abbrev pub invariant-loop-pass : goal.invariant-loop-pass
invariant-loop-pass g l = record {
  passes : l.passes.items ++ into_iter_items l.rest ≡ passes_of l.fn.tracks.items ++ l.fn.left.items;
  room : vec_len l.passes + length (into_iter_items l.rest) ≤ vec_capacity l.passes;
}

abbrev pub decreases-loop-pass : goal.decreases-loop-pass
decreases-loop-pass g l = into_iter_len l.rest
