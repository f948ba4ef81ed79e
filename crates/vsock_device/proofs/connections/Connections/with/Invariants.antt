use Rattle.std.proofs.Common.{◌≡◌, ◌≤◌, length, take}
use Rattle.vsock_device.specs.Connections.{updated}
use Rattle.vsock_device.proofs.connections.Connections.with.Given as goal

abbrev pub invariant-loop-c : goal.invariant-loop-c
invariant-loop-c l = (l.some ≡ updated l.fn.now (take l.c-index l.fn.self)) × (length l.some ≤ l.c-index)
