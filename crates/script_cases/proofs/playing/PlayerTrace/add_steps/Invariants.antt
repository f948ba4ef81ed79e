use Rattle.std.proofs.Common.{◌≡◌}
use Rattle.script_cases.proofs.playing.PlayerTrace.add_steps.Given as goal

abbrev pub invariant-loop-taken : goal.invariant-loop-taken
invariant-loop-taken l = record { kept : l.self.failing ≡ l.fn.self.failing }
