use Rattle.std.proofs.Common.{◌<◌, ◌∙◌, ap, arith, sym}
use Rattle.vm_types.specs.declared.op.Op.TheVariants.{Read}
use Rattle.device_trace.specs.Doing.{Doing}
use Rattle.dev_core.specs.Pieces.{place, room}
use Rattle.queue_device.specs.Acting.{Acts, performing}
use Rattle.queue_device.proofs.Acting.{performing_acts}
use Rattle.balloon_device.specs.declared.kind.Stage.TheVariants as stage
use Rattle.balloon_device.specs.declared.statistics.Statistics.{Statistics}
use Rattle.balloon_device.specs.Balloon.{tags_done}
use Rattle.balloon_device.specs.Work.{Kept, serving_of, tags_left}
use Rattle.balloon_device.proofs.Entries.{told_all}
use Rattle.balloon_device.proofs.Working.{collected, tags_asked, tags_same}
use Rattle.balloon_device.proofs.kind.BalloonKind.tags_on.Goals as goal

pub returns-clause-works : goal.returns-clause-works
returns-clause-works c =
    let from = c.args.from.from in
    let held = c.tell.new.held in
    let so_far = c.tell.new.so_far in
    let own = c.args.self.now.own in
    let still = told_all held so_far c.tell.ensures.begun in
    let some : 0 < room from = omega (arith, c.room.ensures.room, c.if-room-eq0.false) in
    ap (λ (t : Doing Statistics). performing t own tags_done) (tags_same from c.args.from.held held c.args.so_far so_far c.tell.ensures.told still)
    ∙ performing_acts (tags_left (collected from held) so_far) own tags_done (Read (place from) (room from)) (tags_asked from held so_far still some)
    ∙ ap (λ (k : Kept). Acts k.own (Read (place from) (room from)) (serving_of (stage.Tags (collected from held) so_far))) (sym c.self.view_is)
