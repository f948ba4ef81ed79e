use Rattle.std.proofs.Common.{ap, arith, length, ◌∙◌}
use Rattle.stamp_merge.specs.declared.layout.Layout.{Layout}
use Rattle.slice_runner.specs.Opened.{world_of}
use Rattle.slice_runner.specs.Slices.{acting_of}
use Rattle.slice_runner.proofs.Around.{answered_around, back_around, marks_around, put_and_given, room_around, serial_around, stopped_around, there_around}
use Rattle.slice_runner.proofs.slice.run_slice.Goals as goal

pub share-requires-clause-room : goal.share-requires-clause-room
share-requires-clause-room g c κs within =
    let size = c.layout_of-layout.ensures.layout in
    room_around c.args.world.now _ c.take-parts.result _ c.pools_of.ensures.same c.take-parts.ensures.parts c.args.how _ _ _ (length c.args.passes.now.items) _ _ c.in_ok-room.room
    (ap (λ (l : Layout). l.pages) size) (ap (λ (l : Layout). l.ports) size) c.hart_count.ensures (c.acting.ensures ∙ ap (acting_of c.args.how) (ap length c.devices.ensures)) c.blanks_for-blanks.ensures.blanks
    (omega (arith, c.len.ensures, c.args.passes.now.ok))
    (c.in_ok-room.ensures c.blanks_for-blanks.result c.in_ok-pools.ensures.filled)

pub returns-in-Ok-clause-serial : goal.returns-in-Ok-clause-serial
returns-in-Ok-clause-serial g c =
    serial_around c.args.world.now _ c.take-parts.result _ c.pools_of.ensures.same c.take-parts.ensures.parts _ c.in-Ok.shared.parts _
    (put_and_given (world_of c.in-Ok.shared.parts) _ _ _ c.give_back.ensures c.put_back.ensures) c.in-Ok.shared.events.items c.in-Ok.ensures.shared.serial

pub returns-in-Ok-clause-marks : goal.returns-in-Ok-clause-marks
returns-in-Ok-clause-marks g c =
    marks_around c.args.world.now _ c.take-parts.result _ c.pools_of.ensures.same c.take-parts.ensures.parts _ c.in-Ok.shared.parts _
    (put_and_given (world_of c.in-Ok.shared.parts) _ _ _ c.give_back.ensures c.put_back.ensures) c.in-Ok.shared.events.items c.in-Ok.ensures.shared.marks

pub returns-in-Ok-clause-actors : goal.returns-in-Ok-clause-actors
returns-in-Ok-clause-actors g c =
    there_around c.args.world.now _ c.take-parts.result _ c.pools_of.ensures.same c.take-parts.ensures.parts c.args.how _ c.in-Ok.ensures.shared.there

pub returns-in-Ok-clause-stops : goal.returns-in-Ok-clause-stops
returns-in-Ok-clause-stops g c =
    stopped_around g.G.Gate.tally c.args.steps c.args.how c.args.world.now _ c.take-parts.result _ c.pools_of.ensures.same c.take-parts.ensures.parts _ _
    c.in-Ok.shared.parts _ _ _ _ (put_and_given (world_of c.in-Ok.shared.parts) _ _ _ c.give_back.ensures c.put_back.ensures) c.in-Ok.ensures.shared.stopped

pub returns-in-Ok-clause-answered : goal.returns-in-Ok-clause-answered
returns-in-Ok-clause-answered g c =
    answered_around c.args.world.now _ c.take-parts.result _ c.pools_of.ensures.same c.take-parts.ensures.parts g.O.DeviceObjects.Answers c.args.how c.in-Ok.shared.events.items _ _ c.in-Ok.ensures.shared.answered

pub returns-in-Err-clause-failed : goal.returns-in-Err-clause-failed
returns-in-Err-clause-failed g c = (
  back_around c.args.world.now _ c.take-parts.result _ c.pools_of.ensures.same c.take-parts.ensures.parts _ c.in-Err.parts _
      c.put_back-in-Err.ensures c.in-Err.ensures.back.0,
  c.in-Err.ensures.back.1,
  c.in-Err.ensures.back.2,
  c.in-Err.ensures.back.3,
)
