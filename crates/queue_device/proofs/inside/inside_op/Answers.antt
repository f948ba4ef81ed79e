-- What is wanted inside a group, by what the device is at.
use Rattle.queue_device.specs.Left.{queued}
use Rattle.queue_device.proofs.Steps.{holds_break, holds_question, holds_return, holds_serve, holds_take, holds_walk, walk_op}
use Rattle.queue_device.proofs.inside.inside_op.Goals as goal

pub returns-in-Walk-clause-root : goal.returns-in-Walk-clause-root
returns-in-Walk-clause-root g c =
    walk_op g.K.Kind.service (g.K.Kind.hand (g.K.Kind.stage c.args.kind.now)) (queued c.args.rounds.now (g.K.Kind.own c.args.kind.now))
    c.args.phase.now c.want-in-Walk.result c.in-Walk.which c.in-Walk.walk c.in-Walk.is c.want-in-Walk.ensures.asked

pub returns-in-Walk-clause-holds : goal.returns-in-Walk-clause-holds
returns-in-Walk-clause-holds g c inside =
    holds_walk g.K.Kind.service (g.K.Kind.hand (g.K.Kind.stage c.args.kind.now)) c.args.rounds.now c.args.phase.now c.want-in-Walk.result
    c.in-Walk.which c.in-Walk.walk c.in-Walk.is c.want-in-Walk.ensures.asked

pub returns-in-Return-clause-holds : goal.returns-in-Return-clause-holds
returns-in-Return-clause-holds g c inside =
    holds_return g.K.Kind.service (g.K.Kind.hand (g.K.Kind.stage c.args.kind.now)) c.args.rounds.now c.args.phase.now c.want-in-Return.result
    c.in-Return.chain c.in-Return.len c.in-Return.stage c.used_chain.result c.in-Return.is c.used_chain.ensures
    c.want-in-Return.ensures

pub returns-in-Break-clause-holds : goal.returns-in-Break-clause-holds
returns-in-Break-clause-holds g c inside =
    holds_break g.K.Kind.service (g.K.Kind.hand (g.K.Kind.stage c.args.kind.now)) c.args.rounds.now c.args.phase.now c.want-in-Break.result
    c.in-Break.which c.in-Break.stage c.in-Break.is c.want-in-Break.ensures

pub returns-in-Question-clause-holds : goal.returns-in-Question-clause-holds
returns-in-Question-clause-holds g c inside =
    holds_question g.K.Kind.service (g.K.Kind.hand (g.K.Kind.stage c.args.kind.now)) c.args.rounds.now c.args.phase.now
    c.want.result c.in-Question.is c.want.ensures

pub returns-in-Take-clause-holds : goal.returns-in-Take-clause-holds
returns-in-Take-clause-holds g c inside =
    holds_take g.K.Kind.service (g.K.Kind.hand (g.K.Kind.stage c.args.kind.now)) c.args.rounds.now c.args.phase.now
    c.want-in-Take.result c.in-Take.chain c.in-Take.is c.want-in-Take.ensures

pub returns-in-Serve-clause-holds : goal.returns-in-Serve-clause-holds
returns-in-Serve-clause-holds g c inside =
    holds_serve g.K.Kind.service (g.K.Kind.hand (g.K.Kind.stage c.args.kind.now)) c.args.rounds.now c.args.phase.now
    c.want-in-Serve.result c.in-Serve.chain c.in-Serve.is c.want-in-Serve.ensures
