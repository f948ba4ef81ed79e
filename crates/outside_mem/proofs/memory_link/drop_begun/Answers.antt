use Rattle.std.proofs.Common.{rules}
use Rattle.outside_mem.proofs.Wires.{wires_change}
use Rattle.outside_mem.proofs.memory_link.drop_begun.Goals as goal

pub returns-then-device-len : goal.returns-then-device-len
returns-then-device-len c = wires_change _ _ _ _ _ (search rules) c.index_mut.ensures.value c.drop_begun.ensures
