-- What an instruction does behind its fetch: it ends, or it wants one access and ends by the reply.
use Rattle.std.specs.Prelude.{Option, Some, None}
use Rattle.vm_types.specs.declared.op.Op.{Op}
use Rattle.vm_types.specs.declared.reply.Reply.{Reply}
use Rattle.rv_supervisor.specs.declared.regs.Regs.{Regs}

pub data Doing : Type 0 where
  Ends : Regs → Doing
  Asks : Op → (Reply → Regs) → Doing

-- the access that is wanted
abbrev pub asked : Doing → Option Op
asked (Ends after) = None
asked (Asks op ends) = Some op

-- the registers at the end, by the last reply
abbrev pub ended : Doing → Reply → Regs
ended (Ends after) reply = after
ended (Asks op ends) reply = ends reply
