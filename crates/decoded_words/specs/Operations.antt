-- Which instruction each operation is, with its registers and its immediate, offset or amount (unprivileged manual, chapter 24).
use Rattle.std.specs.Prelude.{ℕ, ◌≡◌, Option, Some, None}
use Rattle.rv_rows.specs.declared.register.Register.{Register}
use Rattle.rv_rows.specs.declared.register.Register.TheVariants.{X0}
use Rattle.rv_rows.specs.declared.alu.AluOp.TheVariants as alu
use Rattle.rv_rows.specs.declared.alu.MulDivOp.TheVariants as muldiv
use Rattle.rv_rows.specs.declared.branch.Condition.TheVariants as condition
use Rattle.rv_rows.specs.declared.memory.LoadKind.TheVariants as load
use Rattle.rv_rows.specs.declared.memory.Width.TheVariants as width
use Rattle.rv_rows.specs.declared.instr.Instr.{Instr}
use Rattle.rv_rows.specs.declared.instr.Instr.TheVariants as instr
use Rattle.rv_rows.specs.Table.{instr_of}
use Rattle.decoded_words.specs.declared.operation.Operation.{Operation}
use Rattle.decoded_words.specs.declared.operation.Operation.TheVariants as Op

-- `other` is rs2, or rd of a jump
abbrev pub instr_named : Operation → Register → Register → Register → ℕ → Option Instr
instr_named Op.Rare rd rs1 other value = None
instr_named Op.LoadByte rd rs1 other value = Some (instr.Load load.Byte rd rs1 value)
instr_named Op.LoadHalf rd rs1 other value = Some (instr.Load load.Half rd rs1 value)
instr_named Op.LoadWord rd rs1 other value = Some (instr.Load load.Word rd rs1 value)
instr_named Op.LoadDouble rd rs1 other value = Some (instr.Load load.Double rd rs1 value)
instr_named Op.LoadByteUnsigned rd rs1 other value = Some (instr.Load load.ByteUnsigned rd rs1 value)
instr_named Op.LoadHalfUnsigned rd rs1 other value = Some (instr.Load load.HalfUnsigned rd rs1 value)
instr_named Op.LoadWordUnsigned rd rs1 other value = Some (instr.Load load.WordUnsigned rd rs1 value)
instr_named Op.StoreByte rd rs1 other value = Some (instr.Store width.Byte rs1 other value)
instr_named Op.StoreHalf rd rs1 other value = Some (instr.Store width.Half rs1 other value)
instr_named Op.StoreWord rd rs1 other value = Some (instr.Store width.Word rs1 other value)
instr_named Op.StoreDouble rd rs1 other value = Some (instr.Store width.Double rs1 other value)
instr_named Op.Constant rd rs1 other value = Some (instr.AluImm alu.Add rd X0 value)
instr_named Op.AddImmediate rd rs1 other value = Some (instr.AluImm alu.Add rd rs1 value)
instr_named Op.SllImmediate rd rs1 other value = Some (instr.AluImm alu.Sll rd rs1 value)
instr_named Op.SltImmediate rd rs1 other value = Some (instr.AluImm alu.Slt rd rs1 value)
instr_named Op.SltuImmediate rd rs1 other value = Some (instr.AluImm alu.Sltu rd rs1 value)
instr_named Op.XorImmediate rd rs1 other value = Some (instr.AluImm alu.Xor rd rs1 value)
instr_named Op.SrlImmediate rd rs1 other value = Some (instr.AluImm alu.Srl rd rs1 value)
instr_named Op.SraImmediate rd rs1 other value = Some (instr.AluImm alu.Sra rd rs1 value)
instr_named Op.OrImmediate rd rs1 other value = Some (instr.AluImm alu.Or rd rs1 value)
instr_named Op.AndImmediate rd rs1 other value = Some (instr.AluImm alu.And rd rs1 value)
instr_named Op.AddwImmediate rd rs1 other value = Some (instr.AluImm alu.Addw rd rs1 value)
instr_named Op.SllwImmediate rd rs1 other value = Some (instr.AluImm alu.Sllw rd rs1 value)
instr_named Op.SrlwImmediate rd rs1 other value = Some (instr.AluImm alu.Srlw rd rs1 value)
instr_named Op.SrawImmediate rd rs1 other value = Some (instr.AluImm alu.Sraw rd rs1 value)
instr_named Op.Add rd rs1 other value = Some (instr.Alu alu.Add rd rs1 other)
instr_named Op.Sub rd rs1 other value = Some (instr.Alu alu.Sub rd rs1 other)
instr_named Op.Sll rd rs1 other value = Some (instr.Alu alu.Sll rd rs1 other)
instr_named Op.Slt rd rs1 other value = Some (instr.Alu alu.Slt rd rs1 other)
instr_named Op.Sltu rd rs1 other value = Some (instr.Alu alu.Sltu rd rs1 other)
instr_named Op.Xor rd rs1 other value = Some (instr.Alu alu.Xor rd rs1 other)
instr_named Op.Srl rd rs1 other value = Some (instr.Alu alu.Srl rd rs1 other)
instr_named Op.Sra rd rs1 other value = Some (instr.Alu alu.Sra rd rs1 other)
instr_named Op.Or rd rs1 other value = Some (instr.Alu alu.Or rd rs1 other)
instr_named Op.And rd rs1 other value = Some (instr.Alu alu.And rd rs1 other)
instr_named Op.Addw rd rs1 other value = Some (instr.Alu alu.Addw rd rs1 other)
instr_named Op.Subw rd rs1 other value = Some (instr.Alu alu.Subw rd rs1 other)
instr_named Op.Sllw rd rs1 other value = Some (instr.Alu alu.Sllw rd rs1 other)
instr_named Op.Srlw rd rs1 other value = Some (instr.Alu alu.Srlw rd rs1 other)
instr_named Op.Sraw rd rs1 other value = Some (instr.Alu alu.Sraw rd rs1 other)
instr_named Op.Mul rd rs1 other value = Some (instr.MulDiv muldiv.Mul rd rs1 other)
instr_named Op.Mulw rd rs1 other value = Some (instr.MulDiv muldiv.Mulw rd rs1 other)
instr_named Op.Lui rd rs1 other value = Some (instr.Lui rd value)
instr_named Op.Auipc rd rs1 other value = Some (instr.Auipc rd value)
instr_named Op.BranchEq rd rs1 other value = Some (instr.Branch condition.Eq rs1 other value)
instr_named Op.BranchNe rd rs1 other value = Some (instr.Branch condition.Ne rs1 other value)
instr_named Op.BranchLt rd rs1 other value = Some (instr.Branch condition.Lt rs1 other value)
instr_named Op.BranchGe rd rs1 other value = Some (instr.Branch condition.Ge rs1 other value)
instr_named Op.BranchLtu rd rs1 other value = Some (instr.Branch condition.Ltu rs1 other value)
instr_named Op.BranchGeu rd rs1 other value = Some (instr.Branch condition.Geu rs1 other value)
instr_named Op.Jal rd rs1 other value = Some (instr.Jal other value)
instr_named Op.Jalr rd rs1 other value = Some (instr.Jalr other rs1 value)

-- the word is this instruction, if one is named
abbrev pub IsThat : Option Instr → ℕ → Type 0
IsThat None word = Unit {0}
IsThat (Some it) word = instr_of word ≡ Some it
