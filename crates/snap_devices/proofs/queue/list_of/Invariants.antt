use Rattle.std.proofs.Common.{◌≡◌, ◌≤◌, length, take}
use Rattle.snap_devices.proofs.queue.list_of.Given as goal

abbrev pub invariant-loop-item : goal.invariant-loop-item
invariant-loop-item l = (l.list ≡ take l.item-index l.fn.items) × (length l.list ≤ l.item-index)
