-- The numbers of exceptions in scause (privileged manual, supervisor part, "Supervisor Cause Register").
use Rattle.std.specs.Prelude.{ℕ}
use Rattle.rv_rows.specs.declared.exception.Exception.{Exception}
use Rattle.rv_rows.specs.declared.exception.Exception.TheVariants.{InstructionMisaligned, InstructionFault, IllegalInstruction, Breakpoint, LoadMisaligned, LoadFault, StoreMisaligned, StoreFault}

abbrev pub code : Exception → ℕ
code InstructionMisaligned = 0
code InstructionFault = 1
code IllegalInstruction = 2
code Breakpoint = 3
code LoadMisaligned = 4
code LoadFault = 5
code StoreMisaligned = 6
code StoreFault = 7
