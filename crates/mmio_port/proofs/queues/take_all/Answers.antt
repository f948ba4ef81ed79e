use Rattle.std.proofs.Common.{arith, slice_index_or}
use Rattle.std.proofs.lemmas.List.{get_or_default}
use Rattle.std.proofs.lemmas.List.Edits.{map_over_more}
use Rattle.port_table.specs.Acts.{without_kick}
use Rattle.port_table.specs.Ports.{new_queue}
use Rattle.mmio_port.proofs.queues.take_all.Goals as goal

pub loop-queue-preserved : goal.loop-queue-preserved
loop-queue-preserved c =
    let queues = c.loop-queue.queues in
    let k = c.loop-queue.queue-index in
    map_over_more without_kick c.args.queues.now queues k (slice_index_or queues k new_queue) (omega arith) c.loop-queue.invariant
    (get_or_default queues k _ _ (omega arith))
