use Rattle.std.proofs.Common.{◌-◌, ◌≤◌, ◌≡◌, false, List, Some, length, slice_get, slice_set}
use Rattle.vm_types.specs.declared.ids.ActorId.{ActorId}
use Rattle.guest_pages.specs.Made.{Spends}
use Rattle.hart_trace.specs.States.{Hart}
use Rattle.timer_trace.specs.declared.timer.Timer.{Timer}
use Rattle.guest_devices.specs.declared.device.Device.{Device}
use Rattle.vm_world.specs.Worlds.{world_with}
use Rattle.vm_world.proofs.Events.{HasRun}
use Rattle.vm_world.proofs.hart_run.run_hart.Given as goal

abbrev pub invariant-loop-made : goal.invariant-loop-made
invariant-loop-made l = record {
  within : l.made ≤ l.count;
  on : l.board.off ≡ false;
  has : (timer : Timer) (harts : List Hart) (devices : List Device) → slice_get harts l.number ≡ Some l.fn.hart
      → HasRun (ActorId.Hart l.number) (world_with l.fn.pages.pages l.fn.board l.fn.ports.items timer harts devices) l.made
      (world_with l.pages.pages l.board l.ports.items timer (slice_set harts l.number l.hart) devices);
  many : length l.pages.pages ≡ length l.fn.pages.pages;
  spent : Spends l.made l.fn.pages l.pages;
  many_ports : length l.ports.items ≡ length l.fn.ports.items;
}

abbrev pub decreases-loop-made : goal.decreases-loop-made
decreases-loop-made l = l.count - l.made
