use Rattle.std.proofs.Common.{ap, arith, refl, length}
use Rattle.slice_runner.specs.Slices.{acting}
use Rattle.monitor_running.specs.declared.pacing.Pace.{Pace}
use Rattle.monitor_running.specs.declared.ran.Ran.TheVariants as ran
use Rattle.monitor_running.specs.Paced.IsPaced.{Lacking, Slice}
use Rattle.monitor_running.proofs.Beside.{few_one, slice_asked, slice_stopped}
use Rattle.monitor_running.proofs.Lent.{host_unasked}
use Rattle.monitor_running.proofs.Passing.{passed_end, passed_slice}
use Rattle.monitor_running.proofs.Told.{host_happened, slice_gone}
use Rattle.monitor_running.proofs.Turns.{turn_with, unmade_part}
use Rattle.monitor_running.proofs.running.run_guest.Goals as goal

pub returns-in_default-clause-turn : goal.returns-in_default-clause-turn
returns-in_default-clause-turn g c =
    let all = g.W.TurnObjects.known in
    let failed = c.in_default.ensures.failed in record {
      part =
          unmade_part (all c.args.with.now) (all c.slice_by.new.with) _ _ _
          (host_unasked _ _ c.slice_by.ensures.beside failed.1) failed.0;
      passes = passed_end _ _ ran.OutOfMemory _ _ (λ is. cc) c.slice_by.ensures.serve c.slice_by.ensures.same;
    }

pub returns-clause-turn : goal.returns-clause-turn
returns-clause-turn g c =
    let was = g.W.TurnObjects.known c.args.with.now in
    let mid = g.W.TurnObjects.known c.slice_by.new.with in
    let now = g.W.TurnObjects.known c.settle_behind.new.with in
    let es = c.in-Ok.slice.events.items in
    let few = few_one _ c.args.world.now (acting c.who_acts-how.result c.args.world.now) c.who_acts-how.ensures in
    turn_with _ _ c.tell_slice-end.result _ _ _ _ _ _
    (passed_slice _ _ _ _ _ _ _ _ _ _ c.in-Ok.ensures.stops c.slice_by.ensures.serve c.slice_by.ensures.same)
    (c.tell_slice-end.ensures.part was c.args.world.now
    (host_happened es _ was mid now c.args.world.now c.slice_by.new.world c.as_slice.ensures.value c.settle_behind.ensures c.slice_by.ensures.beside
    (slice_gone es c.args.world.now c.slice_by.new.world was.host mid.host c.in-Ok.ensures.serial c.in-Ok.ensures.clock
    (slice_asked (length c.args.world.now.harts) (acting c.who_acts-how.result c.args.world.now) es was.host.devices mid.host.devices few
    c.in-Ok.ensures.actors c.in-Ok.ensures.answered))))

pub returns-in_default-clause-paced : goal.returns-in_default-clause-paced
returns-in_default-clause-paced g c = λ several none. Lacking refl refl c.in_default.ensures.failed.2

pub returns-clause-paced : goal.returns-clause-paced
returns-clause-paced g c = λ several none.
    Slice several none c.told_slice.ensures.most (record {
      events = c.in-Ok.slice.events.items;
      stops = c.in-Ok.slice.stops.items;
      mid = c.slice_by.new.world;
      serial = c.in-Ok.ensures.serial;
      stopped =
          slice_stopped g.G.Gate.tally c.args.steering.now.pace.steps _ _ _ c.args.world.now c.slice_by.new.world c.in-Ok.slice.events.items
          c.in-Ok.slice.stops.items c.args.steering.now.passes.items c.slice_by.new.passes.items c.steps_each-each.ensures c.who_acts-how.ensures
          (omega (arith, c.len.ensures, c.args.steering.now.passes.ok.0)) c.in-Ok.ensures.stops;
      drained = c.tell_slice-end.ensures.world;
    })

pub returns-clause-steps : goal.returns-clause-steps
returns-clause-steps g c = ap (λ (p : Pace). p.steps) c.told_slice.ensures.after
