use Rattle.std.proofs.Common.{subst, Some, None}
use Rattle.flat_guest.specs.Given.{Given}
use Rattle.flat_machine.specs.Given.{reply_given as given_by}
use Rattle.monitor_machine.specs.Answering.{TakesReply}
use Rattle.monitor_machine.proofs.Lines.{reply_misfits, reply_refused, reply_still, reply_taken}
use Rattle.monitor_machine.proofs.Standing.{reply_stays, unfit_stays}
use Rattle.monitor_machine.specs.Seen.{live_of}
use Rattle.monitor_machine.proofs.machine.LiveMachine.reply.Goals as goal

pub returns-then-self-clause-ok : goal.returns-then-self-clause-ok
returns-then-self-clause-ok c =
    rw (← c.self.view_is)
    (λ known m is.
    reply_still (live_of c.self.inside) known m c.args.actor _ _ is c.if-self.true c.in_ok-misfit_line.ensures)

pub returns-in_default-clause-ok : goal.returns-in_default-clause-ok
returns-in_default-clause-ok c =
    rw (← c.self.view_is)
    (λ known m is.
    reply_refused (live_of c.self.inside) known m c.args.actor _ _ is c.if-self.false c.in_default.is c.in_ok-misfit_line-2.ensures)

pub invariant_of-self-in_err-misfit_line-3 : goal.invariant_of-self-in_err-misfit_line-3
invariant_of-self-in_err-misfit_line-3 c =
    unfit_stays (live_of c.self.inside) c.in-Some.guest c.take_reply.new.guest c.in-Some-take_reply.why c.args.actor _ c.in-Some.is
    c.in-Some-take_reply.ensures c.self.invariant

pub invariant_of-self-in-Some-take_reply : goal.invariant_of-self-in-Some-take_reply
invariant_of-self-in-Some-take_reply c =
    unfit_stays (live_of c.self.inside) c.in-Some.guest c.take_reply.new.guest c.in-Some-take_reply.why c.args.actor _ c.in-Some.is
    c.in-Some-take_reply.ensures c.self.invariant

pub invariant_of-self-2 : goal.invariant_of-self-2
invariant_of-self-2 c =
    reply_stays (live_of c.self.inside) c.in-Some.guest c.take_reply.new.guest c.args.actor _ c.if-self.false c.in-Some.is
    c.in_default-take_reply.ensures c.self.invariant

pub returns-clause-ok : goal.returns-clause-ok
returns-clause-ok c =
    rw (← c.self.view_is)
    (λ known m is.
    reply_taken (live_of c.self.inside) known m c.in-Some.guest c.take_reply.new.guest c.args.actor (given_by c.args.given.now) _ is c.if-self.false c.in-Some.is c.new.ensures
    (subst (λ (o : Given). TakesReply None c.in-Some.guest c.args.actor o c.take_reply.new.guest) c.reply_given.ensures c.in_default-take_reply.ensures))

pub returns-in-Some-take_reply-clause-ok : goal.returns-in-Some-take_reply-clause-ok
returns-in-Some-take_reply-clause-ok c =
    rw (← c.self.view_is)
    (λ known m is.
    reply_misfits (live_of c.self.inside) known m c.in-Some.guest c.take_reply.new.guest c.args.actor (given_by c.args.given.now) _ is c.if-self.false c.in-Some.is c.in-Some-take_reply.why c.in_ok-misfit_line-3.ensures
    (subst (λ (o : Given). TakesReply (Some c.in-Some-take_reply.why) c.in-Some.guest c.args.actor o c.take_reply.new.guest) c.reply_given.ensures c.in-Some-take_reply.ensures))
