use Rattle.std.proofs.Common.{◌<◌, ◌≡◌, ◌+◌, ◌-◌, ◌∙◌, ℕ, ap, arith, replicate, subst, sym}
use Rattle.vm_types.specs.declared.op.Op.TheVariants.{Write}
use Rattle.queue_device.specs.Acting.{Acts, Works, performing}
use Rattle.queue_device.proofs.Acting.{performing_acts}
use Rattle.balloon_device.specs.declared.kind.Stage.TheVariants as stage
use Rattle.balloon_device.specs.Balloon.{pages_done}
use Rattle.balloon_device.specs.Work.{Kept, hand_of, serving_of, zeros_left}
use Rattle.balloon_device.proofs.Working.{zeros_asked}
use Rattle.balloon_device.proofs.kind.BalloonKind.zeros_on.Goals as goal

pub returns-then-left-eq1-clause-works : goal.returns-then-left-eq1-clause-works
returns-then-left-eq1-clause-works c =
    let none : 0 ≡ c.args.left - 1 = omega (arith, c.if-left-eq1.true) in
    subst (λ (n : ℕ). Works (performing (zeros_left c.args.pages c.args.list n (c.args.at + 64)) c.args.self.now.own pages_done)
    c.list_on.result c.list_on.new.self.own (hand_of c.list_on.new.self.stage).op (hand_of c.list_on.new.self.stage).serving) none
    c.list_on.ensures.works

pub returns-clause-works : goal.returns-clause-works
returns-clause-works c =
    let at = c.args.at + 64 in
    let left = c.args.left - 1 in
    let some : 0 < left = omega (arith, c.requires.some, c.if-left-eq1.false) in
    performing_acts (zeros_left c.args.pages c.args.list left at) c.args.self.now.own pages_done (Write at (replicate 64 0))
    (zeros_asked c.args.pages c.args.list left at some)
    ∙ ap (λ (k : Kept). Acts k.own (Write at (replicate 64 0)) (serving_of (stage.Zeros c.args.list c.args.pages left at)))
    (sym c.self.view_is)
