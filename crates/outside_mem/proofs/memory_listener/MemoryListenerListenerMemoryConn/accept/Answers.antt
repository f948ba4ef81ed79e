use Rattle.std.proofs.Common.{arith}
use Rattle.std.proofs.lemmas.Grind.{common_steps}
use Rattle.outside_mem.proofs.memory_listener.MemoryListenerListenerMemoryConn.accept.Goals as goal

pub returns-then-is_nobody_left-clause-accepts : goal.returns-then-is_nobody_left-clause-accepts
returns-then-is_nobody_left-clause-accepts c = grind (arith, common_steps)
