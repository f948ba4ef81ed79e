use Rattle.std.proofs.Common.{◌≡◌, ◌≤◌, length, take}
use Rattle.vsock_device.specs.Connections.{without}
use Rattle.vsock_device.proofs.connections.Connections.others.Given as goal

abbrev pub invariant-loop-c : goal.invariant-loop-c
invariant-loop-c l = (l.some ≡ without l.fn.host (take l.c-index l.fn.self)) × (length l.some ≤ l.c-index)
