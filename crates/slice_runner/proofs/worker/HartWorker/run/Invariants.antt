use Rattle.std.proofs.Common.{length, ◌≡◌, ◌≤◌, vec_len, vec_capacity}
use Rattle.hart_trace.specs.States.{hart_next, hart_wants}
use Rattle.slice_runner.specs.Runs.{IsUnderWay}
use Rattle.slice_runner.specs.Seats.{StaysSeated}
use Rattle.slice_runner.proofs.worker.HartWorker.run.Given as goal

abbrev pub invariant-loop-step : goal.invariant-loop-step
invariant-loop-step g l = record {
  serves : g.G.Gate.serves l.gate l.self.track.pass;
  seat : StaysSeated l.places l.fn.self.track.work l.self.track.work;
  made : vec_len l.self.track.work.journal ≡ l._step;
  room : l.n ≤ vec_capacity l.self.track.work.journal;
  way : IsUnderWay hart_wants hart_next g.G.Gate.tally l.places.layout l.fn.self.track.work.actor l.fn.self.hart (g.G.Gate.tally l.fn.self.track.pass) (length l.fn.self.track.pool.items) l.self.hart l.self.track;
}
