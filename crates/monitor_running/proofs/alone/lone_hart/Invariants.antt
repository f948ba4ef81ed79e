use Rattle.std.proofs.Common.{ℕ, ◌≡◌, ◌<◌, Some}
use Rattle.vm_types.specs.declared.ids.ActorId.{ActorId}
use Rattle.vm_types.specs.declared.op.Op.{Op}
use Rattle.vm_world.specs.Worlds.{want_in}
use Rattle.monitor_running.proofs.alone.lone_hart.Given as goal

abbrev pub invariant-loop-number : goal.invariant-loop-number
invariant-loop-number l = record { idle : (k : ℕ) → k < l.number → want_in l.world (ActorId.Hart k) ≡ Some Op.Idle }
