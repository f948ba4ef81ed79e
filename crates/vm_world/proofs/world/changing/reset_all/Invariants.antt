use Rattle.vm_world.proofs.Resets.{AreResetTo}
use Rattle.vm_world.proofs.world.changing.reset_all.Given as goal

abbrev pub invariant-loop-device : goal.invariant-loop-device
invariant-loop-device l = AreResetTo l.device-index l.initial.devices l.devices
