use Rattle.queue_device.proofs.CodeGoes.{over_looked, over_looks}
use Rattle.queue_device.proofs.begun.over_begun.Goals as goal

pub returns-then-is_busy-clause-kept : goal.returns-then-is_busy-clause-kept
returns-then-is_busy-clause-kept g c = λ kept at works.
    over_looked g.K.Kind.service g.K.Kind.times g.K.Kind.is_work c.args.rounds.now c.end.new.self c.look.new.rounds (g.K.Kind.stage c.args.kind.now)
    (g.K.Kind.stage c.look.new.kind) c.end.ensures c.look.ensures.kept c.look.ensures.pages c.look.ensures.rests kept works

pub returns-clause-kept : goal.returns-clause-kept
returns-clause-kept g c = λ kept at works.
    over_looks g.K.Kind.service g.K.Kind.times g.K.Kind.is_work c.args.rounds.now c.end.new.self (g.K.Kind.stage c.args.kind.now) c.end.ensures kept works
