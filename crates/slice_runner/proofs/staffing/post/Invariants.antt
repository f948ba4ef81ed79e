use Rattle.std.proofs.Common.{◌≡◌, ◌+◌, ◌≤◌, ◌++◌, ◌∷◌, length, vec_len, vec_capacity}
use Rattle.std.specs.Vec.Iter.{into_iter_items, into_iter_len}
use Rattle.slice_runner.specs.Staff.{AreDevices, device_tracks, devices_of, hart_tracks, harts_of}
use Rattle.slice_runner.proofs.staffing.post.Given as goal

abbrev pub invariant-loop-hart : goal.invariant-loop-hart
invariant-loop-hart g l = record {
  timer : l.first.timer ≡ l.fn.actors.timer;
  harts : harts_of l.workers.items ++ into_iter_items l.harts ≡ l.fn.actors.harts.items;
  tracks : l.first.track ∷ (hart_tracks l.workers.items ++ into_iter_items l.rest) ≡ l.fn.tracks.items;
  tracks_left : length (into_iter_items l.rest) ≡ length (into_iter_items l.harts) + length l.fn.actors.devices.items;
  room : vec_len l.workers + length (into_iter_items l.harts) ≤ vec_capacity l.workers;
}

abbrev pub decreases-loop-hart : goal.decreases-loop-hart
decreases-loop-hart g l = into_iter_len l.harts

abbrev pub invariant-loop-device : goal.invariant-loop-device
invariant-loop-device g l = record {
  devices : devices_of l.posted.items ++ into_iter_items l.devices ≡ l.fn.actors.devices.items;
  tracks : l.first.track ∷ (hart_tracks l.workers.items ++ (device_tracks l.posted.items ++ into_iter_items l.rest)) ≡ l.fn.tracks.items;
  tracks_left : length (into_iter_items l.rest) ≡ length (into_iter_items l.devices);
  number : l.number ≡ length l.posted.items;
  numbers : AreDevices 0 l.posted.items;
  all : l.number + length (into_iter_items l.devices) ≡ length l.fn.actors.devices.items;
  room : vec_len l.posted + length (into_iter_items l.devices) ≤ vec_capacity l.posted;
}

abbrev pub decreases-loop-device : goal.decreases-loop-device
decreases-loop-device g l = into_iter_len l.devices
