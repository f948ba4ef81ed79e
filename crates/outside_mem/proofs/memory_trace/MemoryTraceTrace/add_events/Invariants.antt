use Rattle.std.proofs.Common.{◌≡◌, ◌≤◌, ◌-◌, ◌++◌, length, take}
use Rattle.serve_host.specs.Events.{event_items}
use Rattle.outside_mem.proofs.memory_trace.MemoryTraceTrace.add_events.Given as goal

abbrev pub invariant-loop-at : goal.invariant-loop-at
invariant-loop-at l = record {
  within : l.at ≤ length l.events;
  path : l.self.path ≡ l.fn.self.path;
  took : l.self.took.items ≡ l.fn.self.took.items ++ event_items (take l.at l.events);
  finished : take l.self.kept l.self.took.items ≡ take l.fn.self.kept l.fn.self.took.items;
  kept : l.self.failing ≡ l.fn.self.failing;
}

abbrev pub decreases-loop-at : goal.decreases-loop-at
decreases-loop-at l = length l.events - l.at
