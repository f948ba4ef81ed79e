use Rattle.std.proofs.Common.{◌≤◌, length, max}
use Rattle.host_real.proofs.trace_lines.TraceLines.add_steps.Given as goal

abbrev pub invariant-loop-taken : goal.invariant-loop-taken
invariant-loop-taken g l = record { most : length l.self.held.items ≤ max (length l.fn.self.held.items) 65535 }
