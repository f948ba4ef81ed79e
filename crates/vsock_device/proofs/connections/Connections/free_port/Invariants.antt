use Rattle.std.proofs.Common.{◌≡◌, ◌-◌, length}
use Rattle.vsock_device.specs.Connections.{free_port}
use Rattle.vsock_device.proofs.connections.Connections.free_port.Given as goal

abbrev pub invariant-loop : goal.invariant-loop
invariant-loop l = free_port (length l.fn.self) l.fn.self l.fn.port
    ≡ free_port (length l.fn.self - l.counter) l.fn.self l.port
