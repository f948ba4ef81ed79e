use Rattle.queue_device.proofs.CodeGoes.{ended_state}
use Rattle.queue_device.proofs.going.break_given.Goals as goal

pub returns-in-Some-clause-kept : goal.returns-in-Some-clause-kept
returns-in-Some-clause-kept g c = λ working some works.
    rw c.end.ensures
    (ended_state g.K.Kind.service g.K.Kind.times g.K.Kind.is_work c.args.rounds.now (g.K.Kind.stage c.over.new.self) working
    (c.over.ensures.rests c.args.rounds.now.pages works))
