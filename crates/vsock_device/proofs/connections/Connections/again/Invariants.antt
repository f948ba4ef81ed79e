use Rattle.std.proofs.Common.{◌≡◌, ◌≤◌, length, take}
use Rattle.vsock_device.proofs.connections.Connections.again.Given as goal

abbrev pub invariant-loop-c : goal.invariant-loop-c
invariant-loop-c l = (l.same ≡ take l.c-index l.fn.self) × (length l.same ≤ l.c-index)
