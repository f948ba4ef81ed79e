use Rattle.std.proofs.Common.{◌≡◌}
use Rattle.script_cases.proofs.playing.PlayerTrace.add_events.Given as goal

abbrev pub invariant-loop-event : goal.invariant-loop-event
invariant-loop-event l = record { kept : l.self.failing ≡ l.fn.self.failing }
