use Rattle.std.proofs.Common.{◌≡◌, ◌++◌, map, take, drop}
use Rattle.port_table.specs.Acts.{without_kick}
use Rattle.mmio_port.proofs.queues.take_all.Given as goal

abbrev pub invariant-loop-queue : goal.invariant-loop-queue
invariant-loop-queue l =
    l.queues ≡ map without_kick (take l.queue-index l.initial.queues) ++ drop l.queue-index l.initial.queues
