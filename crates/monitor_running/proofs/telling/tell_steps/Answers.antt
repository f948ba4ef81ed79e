use Rattle.monitor_running.proofs.Turns.{told_part}
use Rattle.monitor_running.proofs.telling.tell_steps.Goals as goal

pub returns-clause-part : goal.returns-clause-part
returns-clause-part g c = λ first w happened.
    let told = c.steps_to.ensures in
    told_part _ first (g.W.TurnObjects.known c.args.with.now) _ _ _ _ _ w c.args.guest.now _ happened c.trace.ensures.value
    (g.met.W.TurnObjects.trace_set c.args.with.now c.steps_to.new.trace) c.steps_to.result c.end_of.result c.end_of.ensures told.told told.lasts
