use Rattle.std.proofs.Common.{inr}
use Rattle.firecracker_cli.proofs.Closings.{drain_stopped, finished, off_cut, off_told}
use Rattle.firecracker_cli.proofs.closing.tell_end.Goals as goal

pub returns-in-Err-clause-drains : goal.returns-in-Err-clause-drains
returns-in-Err-clause-drains g c = λ t k known m is.
    drain_stopped m _ _ _ c.in-Err.object _ (c.in-Err.ensures.drains t k known m is)

pub returns-in_default-finish_trace-clause-drains : goal.returns-in_default-finish_trace-clause-drains
returns-in_default-finish_trace-clause-drains g c = λ t k known m is.
    inr (finished m _ _ _ _ _ _ (c.finish_trace.ensures.same (c.drain_rest.ensures.trace_lasts.still t)) (c.in_default.ensures.drains t k known m is))

pub returns-in_default-write_off-clause-drains : goal.returns-in_default-write_off-clause-drains
returns-in_default-write_off-clause-drains g c = λ t k known m is.
    off_cut m _ _ _ _
    (finished m _ _ _ _ _ _ (c.finish_trace.ensures.same (c.drain_rest.ensures.trace_lasts.still t)) (c.in_default.ensures.drains t k known m is)) _
    (c.in_default-write_off.ensures.takes (c.drain_rest.ensures.sink_lasts.still k) known m is)

pub returns-clause-drains : goal.returns-clause-drains
returns-clause-drains g c = λ t k known m is.
    off_told m _ _ _ _
    (finished m _ _ _ _ _ _ (c.finish_trace.ensures.same (c.drain_rest.ensures.trace_lasts.still t)) (c.in_default.ensures.drains t k known m is)) _
    (c.in-Ok-write_off.ensures.takes (c.drain_rest.ensures.sink_lasts.still k) known m is)
