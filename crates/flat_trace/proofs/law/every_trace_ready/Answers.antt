use Rattle.flat_trace.proofs.Readiness.{run_kept}
use Rattle.flat_trace.proofs.law.every_trace_ready.Goals as goal

pub returns : goal.returns
returns c = run_kept
