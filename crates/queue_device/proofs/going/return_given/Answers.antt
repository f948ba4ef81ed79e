use Rattle.std.proofs.Common.{◌≡◌, sym, subst, true, IfSome}
use Rattle.vm_types.specs.Fits.{fits}
use Rattle.device_trace.specs.Doing.{asked, led}
use Rattle.dev_core.specs.declared.returning.UsedChain.{UsedChain}
use Rattle.dev_core.specs.Returning.{return_left}
use Rattle.queue_device.proofs.CodeGoes.{given_state, holding_works}
use Rattle.queue_device.proofs.CodeKept.{hand_some}
use Rattle.queue_device.proofs.going.return_given.Goals as goal

pub give-requires-clause-fits : goal.give-requires-clause-fits
give-requires-clause-fits g c =
    subst (λ (u : UsedChain). IfSome (asked (return_left c.args.stage u)) (λ op. fits op c.args.reply.now ≡ true))
    (sym c.used_chain-used.ensures) c.requires

pub returns-in-None-clause-left : goal.returns-in-None-clause-left
returns-in-None-clause-left g c =
    c.return_told.ensures.left _
    (subst (λ (u : UsedChain). return_left c.give.new.self u ≡ led (return_left c.args.stage u) c.args.reply.now) c.used_chain-used.ensures
    c.in-None.ensures.told)

pub returns-in-Some-clause-kept : goal.returns-in-Some-clause-kept
returns-in-Some-clause-kept g c = λ hold works.
    let r = c.args.rounds.now in
    let stage = g.K.Kind.stage c.over.new.self in
    rw c.next.ensures
    (given_state g.K.Kind.service g.K.Kind.times g.K.Kind.is_work c.args.chain.which c.due_from-due.result r c.give-in-Some.new.self
    (g.K.Kind.own c.over.new.self) stage c.give-in-Some.ensures c.due_from-due.ensures
    (holding_works g.K.Kind.service g.K.Kind.times g.K.Kind.is_work c.args.chain r hold) (hand_some g.K.Kind.service g.K.Kind.times g.K.Kind.is_work r stage c.args.chain hold)
    (c.over.ensures.rests r.pages works))
