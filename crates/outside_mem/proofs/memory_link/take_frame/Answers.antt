use Rattle.std.proofs.Common.{rules}
use Rattle.outside_mem.proofs.Wires.{wires_take}
use Rattle.outside_mem.proofs.memory_link.take_frame.Goals as goal

pub returns-clause-takes : goal.returns-clause-takes
returns-clause-takes c = wires_take _ _ _ _ _ (search rules) c.index_mut.ensures.value c.take.ensures.takes
