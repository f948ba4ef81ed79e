use Rattle.std.proofs.Common.{take}
use Rattle.hart_trace.specs.States.{LeadsTo}
use Rattle.hart_rv64.proofs.traces.op_after.Given as goal

abbrev pub invariant-loop-step : goal.invariant-loop-step
invariant-loop-step l = LeadsTo l.start (take l.step-index l.steps) l.hart
