use Rattle.std.proofs.Common.{false, refl, sym, ◌∙◌}
use Rattle.flat_guest.specs.Given.{as_given}
use Rattle.vm_world.proofs.Events.{is_there}
use Rattle.monitor_machine.proofs.Lines.{world_never, world_takes}
use Rattle.monitor_machine.proofs.answering.take_reply.Goals as goal

pub returns-in-Ok : goal.returns-in-Ok
returns-in-Ok c =
    world_takes c.args.guest.now c.step_with.new.self c.args.actor c.in-Some.op (as_given c.args.given) c.in-Ok.field-0 (sym c.in-Some.ensures.state) (sym c.is_host_op.ensures ∙ c.if-not-is_host_op.false) (sym c.is_given.ensures ∙ c.if-not-is_given.false) c.in-Ok.ensures.made

pub returns-in-Err : goal.returns-in-Err
returns-in-Err c =
    world_never c.args.guest.now c.step_with.new.self c.args.actor c.in-Some.op c.args.given false c.in-Err.ensures.err (sym c.in-Some.ensures.state) (sym c.is_host_op.ensures ∙ c.if-not-is_host_op.false) (sym c.is_given.ensures ∙ c.if-not-is_given.false) refl c.in-Err.ensures.promised

pub returns-then-not-is_host_op : goal.returns-then-not-is_host_op
returns-then-not-is_host_op c = (
  refl,
  λ g is. record {
    there = is_there c.args.guest.now g c.args.actor c.in-Some.op is (sym c.in-Some.ensures.state);
    op = c.in-Some.op;
    wants = c.in-Some.ensures.wants g is;
    own = sym c.is_host_op.ensures ∙ c.if-not-is_host_op.true;
  },
)

pub returns-then-not-is_given : goal.returns-then-not-is_given
returns-then-not-is_given c = (
  refl,
  λ g is. record {
    there = is_there c.args.guest.now g c.args.actor c.in-Some.op is (sym c.in-Some.ensures.state);
    op = c.in-Some.op;
    wants = c.in-Some.ensures.wants g is;
    host = sym c.is_host_op.ensures ∙ c.if-not-is_host_op.false;
    unfit = sym c.is_given.ensures ∙ c.if-not-is_given.true;
  },
)

pub step_with-requires : goal.step_with-requires
step_with-requires c = sym c.in-Some.ensures.state
