use Rattle.std.proofs.Common.{rules}
use Rattle.outside_mem.proofs.Wires.{on_err, on_ok, wires_change, wires_stay}
use Rattle.outside_mem.proofs.memory_link.send_end.Goals as goal

pub returns-clause-sends : goal.returns-clause-sends
returns-clause-sends c =
    on_ok _ (wires_change _ _ _ _ _ (search rules) c.index_mut.ensures.value) c.send_end.ensures.sends

pub returns-clause-same : goal.returns-clause-same
returns-clause-same c =
    on_err _ (wires_stay _ _ _ _ (search rules) c.index_mut.ensures.value) c.send_end.ensures.same
