use Rattle.queue_device.proofs.CodeKept.{between_kept}
use Rattle.queue_device.proofs.begun.lane_begun.Goals as goal

pub returns-in-None-clause-kept : goal.returns-in-None-clause-kept
returns-in-None-clause-kept g c = λ kept at works.
    between_kept g.K.Kind.service g.K.Kind.times g.K.Kind.is_work c.args.rounds.now (g.K.Kind.stage c.args.kind.now) kept works
