use Rattle.std.proofs.Common.{◌≡◌, rules, arith, take, suc, drop, sym, subst, ◌∙◌, true}
use Rattle.vm_types.specs.declared.op.Op.{Op}
use Rattle.vm_types.specs.Fits.{fits}
use Rattle.hart_rv64.proofs.Walks.{stray, split_at, at_end, steps_on}
use Rattle.hart_rv64.proofs.traces.op_after.Goals as goal

pub returns-then-not-is_answered : goal.returns-then-not-is_answered
returns-then-not-is_answered c =
    stray c.args.start.now c.args.steps.now (take c.loop-step.step-index c.args.steps.now)
    (drop (suc c.loop-step.step-index) c.args.steps.now) c.loop-step.hart c.step-item.result
    (split_at c.args.steps.now c.loop-step.step-index c.step-item.result (omega arith) c.step-item.is)
    c.loop-step.invariant (λ is fit. let t = c.if-not-is_answered.ensures.1
    (c.want-op.ensures ∙ sym is, subst (λ (o : Op). fits o c.step-item.result.reply ≡ true) (sym c.want-op.ensures) fit)
    in cc)

pub loop-step-preserved : goal.loop-step-preserved
loop-step-preserved c =
    steps_on c.args.start.now c.args.steps.now c.loop-step.step-index c.loop-step.hart c.give.new.self
    c.step-item.result c.want-op.result
    (omega arith) c.step-item.is c.loop-step.invariant c.want-op.ensures (search rules) (search rules) c.give.ensures

pub returns : goal.returns
returns c =
    at_end c.args.start.now c.args.steps.now c.loop-step.step-index c.loop-step.hart c.want.result
    c.loop-step-test.false c.loop-step.invariant c.want.ensures
