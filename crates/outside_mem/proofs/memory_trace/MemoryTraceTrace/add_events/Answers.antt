use Rattle.std.proofs.lemmas.Result.{err_from_is_err_and}
use Rattle.outside_mem.proofs.Steps.{events_first}
use Rattle.outside_mem.proofs.memory_trace.MemoryTraceTrace.add_events.Goals as goal

pub returns-in_err-add_event-clause-adds : goal.returns-in_err-add_event-clause-adds
returns-in_err-add_event-clause-adds c = λ tells.
    let failed = err_from_is_err_and c.from_residual.result c.from_residual.ensures.1 in
    let before = c.loop-at.invariant in
    rw failed.1 (events_first _ _ _ c.args.events.now c.loop-at.at before.within before.took c.in_err-add_event.ensures.adds)
