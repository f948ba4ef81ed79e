use Rattle.std.proofs.Common.{◌≡◌, drop}
use Rattle.vsock_device.specs.Connections.{connection_between}
use Rattle.vsock_device.proofs.connections.Connections.between.Given as goal

abbrev pub invariant-loop-c : goal.invariant-loop-c
invariant-loop-c l =
    connection_between l.fn.guest_port l.fn.host_port l.fn.self
    ≡ connection_between l.fn.guest_port l.fn.host_port (drop l.c-index l.fn.self)
