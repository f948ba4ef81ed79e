use Rattle.std.proofs.Common.{length, sym, ◌∙◌, ◌≤◌, ◌<◌, subst, ap, ℕ, ◌+◌}
use Rattle.guest_devices.specs.Kept.{device_left}
use Rattle.slice_runner.specs.Runs.{AreAnswered}
use Rattle.slice_runner.proofs.Seats.{seated_still}
use Rattle.slice_runner.proofs.worker.DeviceWorker.run.Goals as goal

pub returns-in-Some-clause-worked : goal.returns-in-Some-clause-worked
returns-in-Some-clause-worked g c =
    let before = c.args.self.now in
    let less = subst (λ (k : ℕ). k < c.args.n) (sym c.loop-step.invariant.made) c.loop-step-test.true in
    let ended = c.in-Some.ensures.ended before.track.work.actor (device_left before.device) (g.G.Gate.tally before.track.pass) c.args.n (length before.track.pool.items) c.loop-step.invariant.way less in
    record { same = ended.same; ran = ended.ran; cause = ended.cause }

pub returns-in-Some-clause-seat : goal.returns-in-Some-clause-seat
returns-in-Some-clause-seat g c =
    let before = c.loop-step.self.track.work in
    seated_still c.args.places.now c.args.self.now.track.work.seat.me.0.round before c.step.new.self.track.work c.loop-step.invariant.seat.round_is c.in-Some.ensures.seat

pub loop-step-preserved : goal.loop-step-preserved
loop-step-preserved g c = record {
  serves = c.in_default.ensures.pass;
  seat = seated_still c.args.places.now c.args.self.now.track.work.seat.me.0.round c.loop-step.self.track.work c.step.new.self.track.work c.loop-step.invariant.seat.round_is c.in_default.ensures.seat;
  made = c.in_default.ensures.one ∙ ap (λ (k : ℕ). k + 1) c.loop-step.invariant.made;
  room = subst (λ (k : ℕ). c.args.n ≤ k) (sym c.in_default.ensures.room) c.loop-step.invariant.room;
  way = c.in_default.ensures.went c.args.self.now.track.work.actor (device_left c.args.self.now.device) (g.G.Gate.tally c.args.self.now.track.pass) (length c.args.self.now.track.pool.items) c.loop-step.invariant.way;
  number = c.in_default.ensures.number ∙ c.loop-step.invariant.number;
  answers = subst (λ (k : ℕ). AreAnswered g.O.DeviceObjects.Answers k (g.O.DeviceObjects.known c.args.objects.now) c.step.new.self.track.work.journal.items (g.O.DeviceObjects.known c.step.new.objects)) c.loop-step.invariant.number
      (c.in_default.ensures.answers (g.O.DeviceObjects.known c.args.objects.now)
      (subst (λ (k : ℕ). AreAnswered g.O.DeviceObjects.Answers k (g.O.DeviceObjects.known c.args.objects.now) c.loop-step.self.track.work.journal.items (g.O.DeviceObjects.known c.loop-step.objects)) (sym c.loop-step.invariant.number) c.loop-step.invariant.answers));
}
