use Rattle.std.proofs.Common.{◌≡◌, ◌+◌, ◌≤◌, ◌++◌, ◌∷◌, length, vec_len, vec_capacity}
use Rattle.std.specs.Vec.Iter.{into_iter_items, into_iter_len}
use Rattle.slice_runner.specs.Staff.{device_tracks, devices_of, hart_tracks, harts_of, tracks_of}
use Rattle.slice_runner.proofs.staffing.gather.Given as goal

abbrev pub invariant-loop-worker : goal.invariant-loop-worker
invariant-loop-worker g l = record {
  harts : l.home.harts.items ++ harts_of (into_iter_items l.rest) ≡ harts_of l.fn.crew.workers.items;
  tracks : l.tracks.items ++ hart_tracks (into_iter_items l.rest) ≡ l.fn.crew.timer.track ∷ hart_tracks l.fn.crew.workers.items;
  same : l.home ≡ record l.fn.home { harts = l.home.harts };
  room_harts : vec_len l.home.harts + length (into_iter_items l.rest) ≤ vec_capacity l.home.harts;
  room : vec_len l.tracks + (length (into_iter_items l.rest) + length l.fn.crew.devices.items) ≤ vec_capacity l.tracks;
}

abbrev pub decreases-loop-worker : goal.decreases-loop-worker
decreases-loop-worker g l = into_iter_len l.rest

abbrev pub invariant-loop-posted : goal.invariant-loop-posted
invariant-loop-posted g l = record {
  harts : l.home.harts.items ≡ harts_of l.fn.crew.workers.items;
  devices : l.home.devices.items ++ devices_of (into_iter_items l.rest) ≡ devices_of l.fn.crew.devices.items;
  tracks : l.tracks.items ++ device_tracks (into_iter_items l.rest) ≡ tracks_of l.fn.crew.timer l.fn.crew.workers.items l.fn.crew.devices.items;
  same : l.home ≡ record l.fn.home { harts = l.home.harts; devices = l.home.devices };
  room_devices : vec_len l.home.devices + length (into_iter_items l.rest) ≤ vec_capacity l.home.devices;
  room : vec_len l.tracks + length (into_iter_items l.rest) ≤ vec_capacity l.tracks;
}

abbrev pub decreases-loop-posted : goal.decreases-loop-posted
decreases-loop-posted g l = into_iter_len l.rest
