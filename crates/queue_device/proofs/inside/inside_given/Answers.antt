-- A reply to the giving back of a chain; and what is kept, by what the device is at.
use Rattle.std.proofs.Common.{◌≡◌, subst, sym, true}
use Rattle.vm_types.specs.declared.op.Op.{Op}
use Rattle.vm_types.specs.Fits.{fits}
use Rattle.queue_device.specs.declared.phase.Phase.{Phase}
use Rattle.queue_device.specs.declared.phase.Phase.TheVariants as phase
use Rattle.queue_device.specs.Kept.{is_state}
use Rattle.queue_device.specs.Left.{queued}
use Rattle.queue_device.proofs.CodeGoes.{break_parts, return_parts, serve_parts, state_parts, take_parts, walk_parts}
use Rattle.queue_device.proofs.Steps.{break_next, return_fits, return_next, walk_next, walk_op}
use Rattle.queue_device.proofs.inside.inside_given.Goals as goal

pub walk_given-requires : goal.walk_given-requires
walk_given-requires g c =
    subst (λ (op : Op). fits op c.args.reply ≡ true)
    (sym (walk_op g.K.Kind.service (g.K.Kind.hand (g.K.Kind.stage c.args.kind.now)) (queued c.args.rounds.now (g.K.Kind.own c.args.kind.now))
    c.args.phase _ c.in-Walk.which c.in-Walk.walk c.in-Walk.is c.wanting.ensures.asked)) c.requires

pub return_given-requires : goal.return_given-requires
return_given-requires g c =
    return_fits g.K.Kind.service (g.K.Kind.hand (g.K.Kind.stage c.args.kind.now)) (queued c.args.rounds.now (g.K.Kind.own c.args.kind.now))
    c.args.phase c.in-Return.chain c.in-Return.len c.in-Return.stage c.args.reply c.in-Return.is c.requires

pub returns-in-Return-clause-left : goal.returns-in-Return-clause-left
returns-in-Return-clause-left g c =
    return_next g.K.Kind.service (g.K.Kind.hand (g.K.Kind.stage c.args.kind.now))
    (queued c.args.rounds.now (g.K.Kind.own c.args.kind.now)) c.args.phase c.want-op.result c.in-Return.chain
    c.in-Return.len c.in-Return.stage c.used_chain.result c.args.reply _ c.in-Return.is c.used_chain.ensures
    c.want-op.ensures c.return_given.ensures.left

pub returns-in-Question-clause-kept : goal.returns-in-Question-clause-kept
returns-in-Question-clause-kept g c = λ state.
    let r = c.args.rounds.now in
    let stage = g.K.Kind.stage c.args.kind.now in
    let p = state_parts g.K.Kind.service g.K.Kind.times g.K.Kind.is_work phase.Question r stage
    (subst (λ (x : Phase). is_state g.K.Kind.service g.K.Kind.times g.K.Kind.is_work x r stage ≡ true) c.in-Question.is state) in
    c.answer_told.ensures.kept p.0 p.1 (c.answer_on-told.ensures.work r.pages p.2)

pub returns-in-Walk-clause-kept : goal.returns-in-Walk-clause-kept
returns-in-Walk-clause-kept g c = λ state.
    let r = c.args.rounds.now in
    let stage = g.K.Kind.stage c.args.kind.now in
    let p = walk_parts g.K.Kind.service g.K.Kind.times g.K.Kind.is_work c.in-Walk.which c.in-Walk.walk r stage
    (subst (λ (x : Phase). is_state g.K.Kind.service g.K.Kind.times g.K.Kind.is_work x r stage ≡ true) c.in-Walk.is state) in
    c.walk_given.ensures.kept p.0 p.1 p.2

pub returns-in-Take-clause-kept : goal.returns-in-Take-clause-kept
returns-in-Take-clause-kept g c = λ state.
    let r = c.args.rounds.now in
    let stage = g.K.Kind.stage c.args.kind.now in
    let p = take_parts g.K.Kind.service g.K.Kind.times g.K.Kind.is_work c.in-Take.chain r stage
    (subst (λ (x : Phase). is_state g.K.Kind.service g.K.Kind.times g.K.Kind.is_work x r stage ≡ true) c.in-Take.is state) in
    let took = c.take_on-told.ensures.work r.pages c.in-Take.chain.which c.few_pages.ensures p.1 in
    c.take_told.ensures.kept p.0 took.1 took.0

pub returns-in-Serve-clause-kept : goal.returns-in-Serve-clause-kept
returns-in-Serve-clause-kept g c = λ state.
    let r = c.args.rounds.now in
    let stage = g.K.Kind.stage c.args.kind.now in
    let p = serve_parts g.K.Kind.service g.K.Kind.times g.K.Kind.is_work c.in-Serve.chain r stage
    (subst (λ (x : Phase). is_state g.K.Kind.service g.K.Kind.times g.K.Kind.is_work x r stage ≡ true) c.in-Serve.is state) in
    c.serve_told.ensures.kept p.0
    (c.serve_on-told.ensures.work r.pages c.in-Serve.chain.which c.few_pages.ensures p.1)

pub returns-in-Return-clause-kept : goal.returns-in-Return-clause-kept
returns-in-Return-clause-kept g c = λ state.
    let r = c.args.rounds.now in
    let stage = g.K.Kind.stage c.args.kind.now in
    let p = return_parts g.K.Kind.service g.K.Kind.times g.K.Kind.is_work c.in-Return.chain c.in-Return.len c.in-Return.stage r stage
    (subst (λ (x : Phase). is_state g.K.Kind.service g.K.Kind.times g.K.Kind.is_work x r stage ≡ true) c.in-Return.is state) in
    c.return_given.ensures.kept p.0 p.1

pub returns-in-Break-clause-kept : goal.returns-in-Break-clause-kept
returns-in-Break-clause-kept g c = λ state.
    let r = c.args.rounds.now in
    let stage = g.K.Kind.stage c.args.kind.now in
    let p = break_parts g.K.Kind.service g.K.Kind.times g.K.Kind.is_work c.in-Break.which c.in-Break.stage r stage
    (subst (λ (x : Phase). is_state g.K.Kind.service g.K.Kind.times g.K.Kind.is_work x r stage ≡ true) c.in-Break.is state) in
    c.break_given.ensures.kept p.0 p.1 p.2

pub returns-in-Walk-clause-left : goal.returns-in-Walk-clause-left
returns-in-Walk-clause-left g c =
    walk_next g.K.Kind.service (g.K.Kind.hand (g.K.Kind.stage c.args.kind.now))
    (queued c.args.rounds.now (g.K.Kind.own c.args.kind.now)) c.args.phase _ c.in-Walk.which c.in-Walk.walk c.args.reply _
    c.in-Walk.is c.wanting.ensures.asked c.walk_given.ensures.left

pub returns-in-Break-clause-left : goal.returns-in-Break-clause-left
returns-in-Break-clause-left g c =
    break_next g.K.Kind.service (g.K.Kind.hand (g.K.Kind.stage c.args.kind.now))
    (queued c.args.rounds.now (g.K.Kind.own c.args.kind.now)) c.args.phase _ c.in-Break.which c.in-Break.stage c.args.reply _
    c.in-Break.is c.want-op-in-Break.ensures c.break_given.ensures.left
