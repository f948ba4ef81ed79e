use Rattle.std.proofs.Common.{◌≡◌, ◌++◌, take}
use Rattle.serve_host.specs.Tracing.{steps_of}
use Rattle.outside_mem.proofs.memory_trace.MemoryTraceTrace.add_steps.Given as goal

abbrev pub invariant-loop-taken : goal.invariant-loop-taken
invariant-loop-taken l = record {
  path : l.self.path ≡ l.fn.self.path;
  took : l.self.took.items ≡ l.fn.self.took.items ++ steps_of l.fn.actor l._taken;
  finished : take l.self.kept l.self.took.items ≡ take l.fn.self.kept l.fn.self.took.items;
  kept : l.self.failing ≡ l.fn.self.failing;
}
