use Rattle.std.proofs.Common.{◌≡◌, ap, refl, sym, subst, true}
use Rattle.dev_core.specs.declared.returning.UsedChain.{UsedChain}
use Rattle.dev_core.specs.Returning.{may_return}
use Rattle.queue_device.specs.declared.phase.InHand.{InHand}
use Rattle.queue_device.specs.declared.phase.Phase.{Phase}
use Rattle.queue_device.specs.Kept.{is_holding, is_state}
use Rattle.queue_device.specs.Left.{queued}
use Rattle.queue_device.proofs.CodeGoes.{return_parts}
use Rattle.queue_device.proofs.CodeKept.{return_kept}
use Rattle.queue_device.proofs.Stepping.{return_done, return_fit, return_more, return_stepped}
use Rattle.queue_device.proofs.in_place.return_step.Goals as goal

pub unreachable-requires : goal.unreachable-requires
unreachable-requires g c = c.in_default.not-Return c.requires.returns.0 c.requires.returns.1 c.requires.returns.2 c.requires.returns.3

pub give-requires-clause-fits : goal.give-requires-clause-fits
give-requires-clause-fits g c =
    return_fit g.K.Kind.service (queued c.args.rounds.now (g.K.Kind.own c.args.kind.now)) c.in-Return.chain c.in-Return.len c.in-Return.stage
    c.args.reply.now g.K.Kind.changing (g.K.Kind.hand (g.K.Kind.stage c.args.kind.now)) c.args.phase.now c.used_chain-used.result c.in-Return.is
    c.used_chain-used.ensures c.requires.fit

pub returns-in-None-clause-left : goal.returns-in-None-clause-left
returns-in-None-clause-left g c =
    let d = queued c.args.rounds.now (g.K.Kind.own c.args.kind.now) in
    return_stepped g.K.Kind.service d c.in-Return.chain c.in-Return.len c.in-Return.stage c.args.reply.now g.K.Kind.changing
    (g.K.Kind.hand (g.K.Kind.stage c.args.kind.now)) c.args.phase.now _ c.in-Return.is
    (return_more g.K.Kind.service d c.in-Return.chain c.in-Return.len c.in-Return.stage c.args.reply.now c.forget.new.chain c.forget.new.len c.give.new.self
    c.used_chain-used.result c.used_chain-used.ensures c.in-None.ensures.told (c.forget.ensures.left c.args.rounds.now)
    (ap (λ (x : InHand). x.which) c.forget.ensures.chain))

pub returns-in-Some-clause-left : goal.returns-in-Some-clause-left
returns-in-Some-clause-left g c =
    let d = queued c.args.rounds.now (g.K.Kind.own c.args.kind.now) in
    return_stepped g.K.Kind.service d c.in-Return.chain c.in-Return.len c.in-Return.stage c.args.reply.now g.K.Kind.changing
    (g.K.Kind.hand (g.K.Kind.stage c.args.kind.now)) c.args.phase.now _ c.in-Return.is
    (return_done g.K.Kind.service d c.in-Return.chain c.in-Return.len c.in-Return.stage c.args.reply.now
    c.used_chain-used.result _ _ c.used_chain-used.ensures c.in-Some.ensures.told c.return_over.ensures.left)

pub returns-in-None-clause-kept : goal.returns-in-None-clause-kept
returns-in-None-clause-kept g c = λ state.
    let r = c.args.rounds.now in
    let stage = g.K.Kind.stage c.args.kind.now in
    let p = return_parts g.K.Kind.service g.K.Kind.times g.K.Kind.is_work c.in-Return.chain c.in-Return.len c.in-Return.stage r stage
    (subst (λ (x : Phase). is_state g.K.Kind.service g.K.Kind.times g.K.Kind.is_work x r stage ≡ true) c.in-Return.is state) in
    return_kept g.K.Kind.service g.K.Kind.times g.K.Kind.is_work r stage c.forget.new.chain
    (subst (λ (x : InHand). is_holding g.K.Kind.service g.K.Kind.times x r ≡ true) (sym c.forget.ensures.chain) p.0)
    c.forget.new.len c.give.new.self c.forget.ensures.told
    (subst (λ (x : InHand). may_return c.give.new.self x.queue ≡ true) (sym c.forget.ensures.chain)
    (subst (λ (u : UsedChain). may_return c.give.new.self u.queue ≡ true) c.used_chain-used.ensures (c.in-None.ensures.accepted refl))) p.1

pub returns-in-Some-clause-kept : goal.returns-in-Some-clause-kept
returns-in-Some-clause-kept g c = λ state.
    let r = c.args.rounds.now in
    let stage = g.K.Kind.stage c.args.kind.now in
    let p = return_parts g.K.Kind.service g.K.Kind.times g.K.Kind.is_work c.in-Return.chain c.in-Return.len c.in-Return.stage r stage
    (subst (λ (x : Phase). is_state g.K.Kind.service g.K.Kind.times g.K.Kind.is_work x r stage ≡ true) c.in-Return.is state) in
    c.return_over.ensures.kept c.in-Return.chain refl p.0 p.1
