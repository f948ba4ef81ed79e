use Rattle.std.proofs.Common.{◌≡◌, subst, true}
use Rattle.queue_device.specs.declared.phase.Phase.{Phase}
use Rattle.queue_device.specs.declared.phase.Phase.TheVariants as phase
use Rattle.queue_device.specs.Kept.{is_state}
use Rattle.queue_device.proofs.CodeGoes.{state_parts}
use Rattle.queue_device.proofs.device.QueueRounds.step.Goals as goal

pub walk_step-requires-clause-walks : goal.walk_step-requires-clause-walks
walk_step-requires-clause-walks g c = (c.in-Walk.which, c.in-Walk.walk, c.in-Walk.is)

pub return_step-requires-clause-returns : goal.return_step-requires-clause-returns
return_step-requires-clause-returns g c = (c.in-Return.chain, c.in-Return.len, c.in-Return.stage, c.in-Return.is)

pub returns-in-Between-clause-kept : goal.returns-in-Between-clause-kept
returns-in-Between-clause-kept g c = λ state.
    let r = c.args.self.now.rounds in
    let stage = g.K.Kind.stage c.args.self.now.kind in
    let p = state_parts g.K.Kind.service g.K.Kind.times g.K.Kind.is_work phase.Between r stage
    (subst (λ (x : Phase). is_state g.K.Kind.service g.K.Kind.times g.K.Kind.is_work x r stage ≡ true) c.in-Between.is state) in
    c.begin_step.ensures.kept p.0 p.2
