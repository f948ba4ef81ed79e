use Rattle.std.proofs.Common.{length, ◌≡◌, ◌≤◌, vec_len, vec_capacity}
use Rattle.timer_trace.specs.States.{timer_next, timer_wants}
use Rattle.slice_runner.specs.Runs.{HasAnswered, IsUnderWay}
use Rattle.slice_runner.specs.Seats.{StaysSeated}
use Rattle.slice_runner.specs.Slices.{answers_of}
use Rattle.slice_runner.proofs.worker.TimerWorker.run.Given as goal

abbrev pub invariant-loop-step : goal.invariant-loop-step
invariant-loop-step g l = record {
  serves : g.G.Gate.serves l.gate l.self.track.pass;
  seat : StaysSeated l.places l.fn.self.track.work l.self.track.work;
  made : vec_len l.self.track.work.journal ≡ l._step;
  room : l.n ≤ vec_capacity l.self.track.work.journal;
  way : IsUnderWay timer_wants timer_next g.G.Gate.tally l.places.layout l.fn.self.track.work.actor l.fn.self.timer (g.G.Gate.tally l.fn.self.track.pass) (length l.fn.self.track.pool.items) l.self.timer l.self.track;
  answers : HasAnswered (g.C.Clock.known l.fn.clock) (answers_of l.self.track.work.journal.items) (g.C.Clock.known l.clock);
}
