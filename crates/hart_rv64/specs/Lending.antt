-- The registers of a hart between two instructions, lent.
use Rattle.std.specs.Borrow.{Lends, MutBor, Fml}
use Rattle.rv_supervisor.specs.declared.regs.Regs.{Regs}
use Rattle.rv_supervisor.specs.contracts.regs.Regs as registers
use Rattle.hart_trace.specs.States.{Hart, fresh}
use Rattle.hart_rv64.specs.contracts.hart.Hart.{the_row}

-- the hart ends with the last registers behind r
abbrev pub LendsRegs : MutBor Hart → MutBor Regs → Fml
LendsRegs h r = Lends the_row registers.the_row h r fresh
