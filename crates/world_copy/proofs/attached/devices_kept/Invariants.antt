use Rattle.std.proofs.Common.{take}
use Rattle.guest_devices.specs.Kept.{AreReset}
use Rattle.world_copy.proofs.attached.devices_kept.Given as goal

abbrev pub invariant-loop-device : goal.invariant-loop-device
invariant-loop-device l = AreReset (take l.device-index l.devices) l.kept
