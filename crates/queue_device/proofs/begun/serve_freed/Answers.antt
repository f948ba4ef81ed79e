-- A chain that waited is in hand, in rounds that may be kept.
use Rattle.std.proofs.Common.{sym, ◌∙◌}
use Rattle.queue_device.specs.declared.phase.Work.TheVariants as work
use Rattle.queue_device.proofs.CodeGoes.{freed_hand, freed_state, freed_works}
use Rattle.queue_device.proofs.begun.serve_freed.Goals as goal

pub returns-in-Some-clause-kept : goal.returns-in-Some-clause-kept
returns-in-Some-clause-kept g c = λ kept at some works.
    let r = c.args.rounds.now in
    let hand = freed_hand g.K.Kind.service g.K.Kind.times g.K.Kind.is_work c.args.which c.in-Some.chain r c.free.new.self c.free.ensures.rounds kept at some
    (sym c.free.ensures.chain ∙ c.in-Some.is) in
    c.serve.ensures.kept hand.0 hand.1
    (freed_works g.K.Kind.service g.K.Kind.times g.K.Kind.is_work c.args.which r c.free.new.self work.Rest (g.K.Kind.stage c.args.kind.now) c.free.ensures.rounds works)

pub returns-in-None-clause-kept : goal.returns-in-None-clause-kept
returns-in-None-clause-kept g c = λ kept at some works.
    freed_state g.K.Kind.service g.K.Kind.times g.K.Kind.is_work c.args.which c.args.rounds.now c.free.new.self (g.K.Kind.stage c.args.kind.now) c.free.ensures.rounds
    kept at some works
