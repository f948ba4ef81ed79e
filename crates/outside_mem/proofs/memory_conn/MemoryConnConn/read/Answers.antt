use Rattle.outside_mem.proofs.memory_conn.MemoryConnConn.read.Goals as goal

pub returns-clause-bytes : goal.returns-clause-bytes
returns-clause-bytes c tells = c.give.ensures.comes _ _
