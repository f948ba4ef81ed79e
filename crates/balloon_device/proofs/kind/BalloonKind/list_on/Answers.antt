use Rattle.std.proofs.Common.{◌<◌, ◌∙◌, ℕ, List, ap, arith, refl, sym}
use Rattle.vm_types.specs.declared.op.Op.TheVariants.{Read}
use Rattle.device_trace.specs.Doing.{Doing}
use Rattle.dev_core.specs.Pieces.{place, room}
use Rattle.queue_device.specs.Acting.{Acts, performing}
use Rattle.queue_device.proofs.Acting.{performing_acts}
use Rattle.balloon_device.specs.declared.kind.Stage.TheVariants as stage
use Rattle.balloon_device.specs.Balloon.{pages_done}
use Rattle.balloon_device.specs.Work.{Kept, list_left, serving_of}
use Rattle.balloon_device.proofs.Working.{list_asked, list_done}
use Rattle.balloon_device.proofs.kind.BalloonKind.list_on.Goals as goal

pub returns-then-room-eq0-clause-works : goal.returns-then-room-eq0-clause-works
returns-then-room-eq0-clause-works c =
    let list = c.next_page.new.list in
    let left = c.in_default.ensures.none refl in
    ap (λ (t : Doing (List ℕ)). performing t c.args.self.now.own pages_done)
    (sym left.0 ∙ list_done c.args.pages list.from list.held left.1 (sym c.room.ensures.room ∙ c.if-room-eq0.true))

pub returns-clause-works : goal.returns-clause-works
returns-clause-works c =
    let list = c.next_page.new.list in
    let left = c.in_default.ensures.none refl in
    let some : 0 < room list.from = omega (arith, c.room.ensures.room, c.if-room-eq0.false) in
    ap (λ (t : Doing (List ℕ)). performing t c.args.self.now.own pages_done) (sym left.0)
    ∙ performing_acts (list_left c.args.pages list) c.args.self.now.own pages_done (Read (place list.from) (room list.from))
    (list_asked c.args.pages list.from list.held left.1 some)
    ∙ ap (λ (k : Kept). Acts k.own (Read (place list.from) (room list.from)) (serving_of (stage.List list c.args.pages))) (sym c.self.view_is)
