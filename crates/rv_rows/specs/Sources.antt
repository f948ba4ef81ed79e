-- The registers that an instruction reads: x0, which is 0, where it reads none.
use Rattle.rv_rows.specs.declared.register.Register.{Register}
use Rattle.rv_rows.specs.declared.register.Register.TheVariants.{X0}
use Rattle.rv_rows.specs.declared.instr.Instr.{Instr}
use Rattle.rv_rows.specs.declared.instr.Instr.TheVariants.{Jalr, Branch, Load, Store, AluImm, Alu, MulDiv, LoadReserved, StoreConditional, Amo, Csr}

abbrev pub rs1_of : Instr → Register
rs1_of (Jalr rd rs1 offset) = rs1
rs1_of (Branch condition rs1 rs2 offset) = rs1
rs1_of (Load kind rd rs1 offset) = rs1
rs1_of (Store width rs1 rs2 offset) = rs1
rs1_of (AluImm op rd rs1 value) = rs1
rs1_of (Alu op rd rs1 rs2) = rs1
rs1_of (MulDiv op rd rs1 rs2) = rs1
rs1_of (LoadReserved wide rd rs1) = rs1
rs1_of (StoreConditional wide rd rs1 rs2) = rs1
rs1_of (Amo kind wide rd rs1 rs2) = rs1
rs1_of (Csr op rd csr rs1) = rs1
rs1_of instr = X0

abbrev pub rs2_of : Instr → Register
rs2_of (Branch condition rs1 rs2 offset) = rs2
rs2_of (Store width rs1 rs2 offset) = rs2
rs2_of (Alu op rd rs1 rs2) = rs2
rs2_of (MulDiv op rd rs1 rs2) = rs2
rs2_of (StoreConditional wide rd rs1 rs2) = rs2
rs2_of (Amo kind wide rd rs1 rs2) = rs2
rs2_of instr = X0
