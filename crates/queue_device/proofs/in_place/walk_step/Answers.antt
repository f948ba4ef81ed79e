use Rattle.std.proofs.Common.{◌≡◌, ℕ, ap, sym, subst, ◌∙◌, true}
use Rattle.vm_types.specs.declared.op.Op.{Op}
use Rattle.vm_types.specs.Fits.{fits}
use Rattle.vq_split.specs.Inside.{WalkInside}
use Rattle.vq_split.specs.Walking.{walk_left}
use Rattle.vq_split.specs.declared.queue.Queue.{Queue}
use Rattle.queue_device.specs.declared.phase.Phase.{Phase}
use Rattle.queue_device.specs.Kept.{is_holding, is_state}
use Rattle.queue_device.specs.Lanes.{lane_of}
use Rattle.queue_device.specs.Left.{queued}
use Rattle.queue_device.specs.Rounds.{walked}
use Rattle.queue_device.proofs.CodeGoes.{told_gives, walk_parts, walked_holds, walked_on}
use Rattle.queue_device.proofs.CodeKept.{walk_kept}
use Rattle.queue_device.proofs.Stepping.{walk_came, walk_more, walk_stepped, walk_wanted}
use Rattle.queue_device.proofs.in_place.walk_step.Goals as goal

pub unreachable-requires : goal.unreachable-requires
unreachable-requires g c = c.in_default.not-Walk c.requires.walks.0 c.requires.walks.1 c.requires.walks.2

pub show-requires : goal.show-requires
show-requires g c =
    subst (λ (op : Op). fits op c.args.reply ≡ true)
    (walk_wanted g.K.Kind.service g.K.Kind.changing (g.K.Kind.hand (g.K.Kind.stage c.args.kind.now))
    (queued c.args.rounds.now (g.K.Kind.own c.args.kind.now)) c.args.phase.now c.in-Walk.which c.in-Walk.walk c.in-Walk.is _ c.wanting.ensures.asked)
    c.requires.fit

pub give-requires : goal.give-requires
give-requires g c =
    subst (λ (op : Op). fits op c.args.reply ≡ true)
    (walk_wanted g.K.Kind.service g.K.Kind.changing (g.K.Kind.hand (g.K.Kind.stage c.args.kind.now))
    (queued c.args.rounds.now (g.K.Kind.own c.args.kind.now)) c.args.phase.now c.in-Walk.which c.in-Walk.walk c.in-Walk.is _ c.wanting.ensures.asked)
    c.requires.fit

pub returns-in-More-clause-left : goal.returns-in-More-clause-left
returns-in-More-clause-left g c =
    let d = queued c.args.rounds.now (g.K.Kind.own c.args.kind.now) in
    walk_stepped g.K.Kind.service g.K.Kind.changing (g.K.Kind.hand (g.K.Kind.stage c.args.kind.now)) d c.args.phase.now c.in-Walk.which c.in-Walk.walk c.in-Walk.is _
    c.wanting.ensures.asked c.args.reply _
    (walk_more g.K.Kind.service c.in-Walk.which c.in-Walk.walk c.give.new.self c.args.reply d
    (queued c.args.rounds.now (g.K.Kind.own c.show.new.kind)) (c.show.ensures.shown c.args.rounds.now) c.in-More.ensures.told
    (c.give.ensures.look c.in-More.is) c.give.ensures.queue c.give.ensures.number)

pub returns-in-More-clause-kept : goal.returns-in-More-clause-kept
returns-in-More-clause-kept g c = λ state.
    let r = c.args.rounds.now in
    let stage = g.K.Kind.stage c.args.kind.now in
    let p = walk_parts g.K.Kind.service g.K.Kind.times g.K.Kind.is_work c.in-Walk.which c.in-Walk.walk r stage
    (subst (λ (x : Phase). is_state g.K.Kind.service g.K.Kind.times g.K.Kind.is_work x r stage ≡ true) c.in-Walk.is state) in
    walk_kept g.K.Kind.service g.K.Kind.times g.K.Kind.is_work r (g.K.Kind.stage c.show.new.kind) c.in-Walk.which c.give.new.self p.0
    (walked_on g.K.Kind.service g.K.Kind.times g.K.Kind.is_work (lane_of c.in-Walk.which r) c.in-Walk.walk c.give.new.self p.1 c.wanting-in-More.ensures.test
    c.give.ensures.queue c.give.ensures.number) (c.show.ensures.rests r.pages p.2)

pub returns-in_default-give-clause-left : goal.returns-in_default-give-clause-left
returns-in_default-give-clause-left g c =
    let d = queued c.args.rounds.now (g.K.Kind.own c.args.kind.now) in
    let e = queued c.args.rounds.now (g.K.Kind.own c.show.new.kind) in
    let gives = told_gives g.K.Kind.service g.K.Kind.times g.K.Kind.is_work _ (walk_left c.give.new.self) c.give.result c.give.ensures.told c.in_default-give.not-More in
    walk_stepped g.K.Kind.service g.K.Kind.changing (g.K.Kind.hand (g.K.Kind.stage c.args.kind.now)) d c.args.phase.now c.in-Walk.which c.in-Walk.walk c.in-Walk.is _
    c.wanting.ensures.asked c.args.reply _
    (c.walk_over.ensures.left
    ∙ ap (λ (q : Queue). walked g.K.Kind.service c.in-Walk.which q e c.give.result) c.of-queue.ensures
    ∙ walk_came g.K.Kind.service c.in-Walk.which c.in-Walk.walk c.args.reply c.give.result d e (c.show.ensures.shown c.args.rounds.now) gives)

pub returns-in_default-give-clause-kept : goal.returns-in_default-give-clause-kept
returns-in_default-give-clause-kept g c = λ state.
    let r = c.args.rounds.now in
    let stage = g.K.Kind.stage c.args.kind.now in
    let p = walk_parts g.K.Kind.service g.K.Kind.times g.K.Kind.is_work c.in-Walk.which c.in-Walk.walk r stage
    (subst (λ (x : Phase). is_state g.K.Kind.service g.K.Kind.times g.K.Kind.is_work x r stage ≡ true) c.in-Walk.is state) in
    let held = walked_holds g.K.Kind.service g.K.Kind.times g.K.Kind.is_work c.in-Walk.which c.in-Walk.walk 0 r c.few_pages.ensures p.0 p.1 in
    c.walk_over.ensures.kept 0
    (subst (λ (q : Queue). is_holding g.K.Kind.service g.K.Kind.times
    (record { which = c.in-Walk.which; queue = q; head = 0 }) r ≡ true) (sym c.of-queue.ensures) held.0)
    (subst (λ (n : ℕ). WalkInside n c.give.result) held.1 c.give.ensures.inside) (c.show.ensures.rests r.pages p.2)
