use Rattle.std.proofs.Common.{◌≡◌, ◌-◌, ◌≤◌, Some}
use Rattle.vm_types.specs.declared.op.Op.{Op}
use Rattle.guest_pages.specs.Made.{Spends}
use Rattle.vm_world.specs.Worlds.{pages_of, want_in}
use Rattle.vm_world.proofs.Events.{HasRun}
use Rattle.vm_world.proofs.world.World.run_actor.Given as goal

abbrev pub invariant-loop-made : goal.invariant-loop-made
invariant-loop-made l = record {
  within : l.made ≤ l.count;
  has : HasRun l.actor l.fn.self l.made l.self;
  spent : Spends l.made (pages_of l.fn.self) (pages_of l.self);
  there : (op : Op) × (want_in l.self l.actor ≡ Some op);
}

abbrev pub decreases-loop-made : goal.decreases-loop-made
decreases-loop-made l = l.count - l.made
