use Rattle.file_format.proofs.Loops.{Writing}
use Rattle.snap_devices.specs.Queues.{part}
use Rattle.snap_devices.proofs.queue.write_items.Given as goal

abbrev pub invariant-loop-item : goal.invariant-loop-item
invariant-loop-item l = Writing part l.list l.item-index l.fn.out.items l.out.items
