use Rattle.std.proofs.Common.{length, ◌≡◌, ◌≤◌, vec_len, vec_capacity}
use Rattle.guest_devices.specs.Devices.{device_next, device_wants}
use Rattle.guest_devices.specs.Kept.{device_left}
use Rattle.slice_runner.specs.Runs.{AreAnswered, IsUnderWay}
use Rattle.slice_runner.specs.Seats.{StaysSeated}
use Rattle.slice_runner.proofs.worker.DeviceWorker.run.Given as goal

abbrev pub invariant-loop-step : goal.invariant-loop-step
invariant-loop-step g l = record {
  serves : g.G.Gate.serves l.gate l.self.track.pass;
  seat : StaysSeated l.places l.fn.self.track.work l.self.track.work;
  made : vec_len l.self.track.work.journal ≡ l._step;
  room : l.n ≤ vec_capacity l.self.track.work.journal;
  way : IsUnderWay device_wants device_next g.G.Gate.tally l.places.layout l.fn.self.track.work.actor (device_left l.fn.self.device) (g.G.Gate.tally l.fn.self.track.pass) (length l.fn.self.track.pool.items) (device_left l.self.device) l.self.track;
  number : l.self.number ≡ l.fn.self.number;
  answers : AreAnswered g.O.DeviceObjects.Answers l.fn.self.number (g.O.DeviceObjects.known l.fn.objects) l.self.track.work.journal.items (g.O.DeviceObjects.known l.objects);
}
