use Rattle.std.proofs.Common.{◌≡◌, drop}
use Rattle.snap_state.specs.Valid.{are_devices}
use Rattle.snap_state.proofs.attached.are_devices.Given as goal

abbrev pub invariant-loop-port : goal.invariant-loop-port
invariant-loop-port l = are_devices l.pages l.port (drop l.port l.devices) ≡ are_devices l.pages 0 l.devices
