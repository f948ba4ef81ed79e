use Rattle.std.proofs.Common.{ℕ, ◌≡◌, ◌<◌, false}
use Rattle.monitor_running.specs.Working.{works_in}
use Rattle.monitor_running.proofs.working.device_works.Given as goal

abbrev pub invariant-loop-number : goal.invariant-loop-number
invariant-loop-number l = record { none : (k : ℕ) → k < l.number → works_in l.world k ≡ false }
