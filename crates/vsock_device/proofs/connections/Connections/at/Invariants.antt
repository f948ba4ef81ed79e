use Rattle.std.proofs.Common.{◌≡◌, drop}
use Rattle.vsock_device.specs.Connections.{connection_at}
use Rattle.vsock_device.proofs.connections.Connections.at.Given as goal

abbrev pub invariant-loop-c : goal.invariant-loop-c
invariant-loop-c l = connection_at l.fn.host l.fn.self ≡ connection_at l.fn.host (drop l.c-index l.fn.self)
