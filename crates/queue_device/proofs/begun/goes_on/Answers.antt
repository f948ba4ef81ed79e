-- A chain that waited and asks no guest time is served at once.
use Rattle.std.proofs.Common.{sym, ◌∙◌}
use Rattle.queue_device.specs.Left.{left_at, queued}
use Rattle.queue_device.proofs.Steps.{goes_untimed}
use Rattle.queue_device.proofs.CodeGoes.{behind_state}
use Rattle.queue_device.proofs.begun.goes_on.Goals as goal

pub inside_given-requires : goal.inside_given-requires
inside_given-requires g c =
    let some = c.requires.some in
    goes_untimed g.K.Kind.service c.args.which some.0 (queued c.args.rounds.now (g.K.Kind.own c.args.kind.now))
    c.args.reply
    (left_at g.K.Kind.service c.serve_freed-phase.result (g.K.Kind.hand (g.K.Kind.stage c.serve_freed-phase.new.kind))
    (queued c.serve_freed-phase.new.rounds (g.K.Kind.own c.serve_freed-phase.new.kind)))
    (sym (c.is_timed.ensures some.0 some.1) ∙ c.if-is_timed.false) (c.requires.fit some.0 some.1)
    (c.serve_freed-phase.ensures.left some.0 some.1)

pub returns-then-passes-clause-kept : goal.returns-then-passes-clause-kept
returns-then-passes-clause-kept g c = λ kept at some works.
    c.serve_freed.ensures.kept kept at some (c.passes.ensures.rests c.args.rounds.now.pages works)

pub returns-else-passes-clause-kept : goal.returns-else-passes-clause-kept
returns-else-passes-clause-kept g c = λ kept at some works.
    let r = c.args.rounds.now in
    rw c.next.ensures
    (behind_state g.K.Kind.service g.K.Kind.times g.K.Kind.is_work c.args.which c.due_behind-due.result r (g.K.Kind.own c.passes.new.kind)
    (g.K.Kind.stage c.passes.new.kind) c.due_behind-due.ensures kept (c.passes.ensures.rests r.pages works))

pub returns-else-is_timed-clause-kept : goal.returns-else-is_timed-clause-kept
returns-else-is_timed-clause-kept g c = λ kept at some works.
    c.inside_given.ensures.kept (c.serve_freed-phase.ensures.kept kept at some works)
