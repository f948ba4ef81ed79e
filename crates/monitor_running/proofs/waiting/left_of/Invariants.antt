use Rattle.std.proofs.Common.{◌≡◌, ◌≤◌, ◌<◌, ◌-◌, ◌⊎◌, ◌^◌, All, Any, take}
use Rattle.monitor_running.proofs.waiting.left_of.Given as goal

abbrev pub invariant-loop-moment : goal.invariant-loop-moment
invariant-loop-moment l = record {
  least : All (λ m. l.now < m → l.left ≤ m - l.now) (take l.moment-index l.moments);
  one : (l.left ≡ 2 ^ 64 - 1) ⊎ Any (λ m. (l.now < m) × (l.left ≡ m - l.now)) l.moments;
}
