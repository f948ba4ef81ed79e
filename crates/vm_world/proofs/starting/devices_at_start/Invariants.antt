use Rattle.std.proofs.Common.{◌≡◌, take}
use Rattle.guest_devices.specs.Kept.{devices_left}
use Rattle.vm_world.specs.Starting.{lefts_at_start}
use Rattle.vm_world.proofs.starting.devices_at_start.Given as goal

abbrev pub invariant-loop-number : goal.invariant-loop-number
invariant-loop-number l = devices_left l.made.items ≡ lefts_at_start l.pages 0 (take l.number l.devices)
