-- A look begins a round, with the question or with a queue that it works on.
use Rattle.queue_device.proofs.CodeKept.{asked_kept, begun_kept}
use Rattle.queue_device.proofs.begun.look.Goals as goal

pub returns-then-asks-clause-kept : goal.returns-then-asks-clause-kept
returns-then-asks-clause-kept g c = λ kept.
    asked_kept g.K.Kind.service g.K.Kind.times c.last.result c.may_ask.result c.in-Port.look c.args.rounds.now c.begin.new.self c.begin.ensures
    c.last.ensures c.may_ask.ensures c.if-may_ask.true kept

pub returns-else-is_running-clause-kept : goal.returns-else-is_running-clause-kept
returns-else-is_running-clause-kept g c = λ kept.
    rw c.next.ensures
    (begun_kept g.K.Kind.service g.K.Kind.times c.last.result c.due_from-due.result c.in-Port.look c.args.rounds.now c.begin.new.self _
    c.begin.ensures c.last.ensures c.due_from-due.ensures kept)
