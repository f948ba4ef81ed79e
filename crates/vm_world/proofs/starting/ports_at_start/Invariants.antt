use Rattle.std.proofs.Common.{◌≡◌, map, take}
use Rattle.std.specs.List.{All}
use Rattle.guest_devices.specs.Devices.{FitsNew}
use Rattle.guest_devices.specs.Ports.{port_at_start}
use Rattle.vm_world.proofs.starting.ports_at_start.Given as goal

abbrev pub invariant-loop-what : goal.invariant-loop-what
invariant-loop-what l = record {
  ports : l.ports.items ≡ map port_at_start (take l.what-index l.devices);
  fit : All FitsNew (take l.what-index l.devices);
}
