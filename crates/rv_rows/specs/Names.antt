-- The names of instructions in the manual's assembly, in small letters and without aq and rl (unprivileged manual,
-- chapters 24 and 25).
use Rattle.std.specs.Prelude.{ℕ, Bool, List, if◌then◌else◌, codes}
use Rattle.vm_types.specs.declared.op.AmoKind.{AmoKind}
use Rattle.rv_rows.specs.declared.alu.AluOp.{AluOp}
use Rattle.rv_rows.specs.declared.alu.MulDivOp.{MulDivOp}
use Rattle.rv_rows.specs.declared.branch.Condition.{Condition}
use Rattle.rv_rows.specs.declared.memory.LoadKind.{LoadKind}
use Rattle.rv_rows.specs.declared.memory.Width.{Width}
use Rattle.rv_rows.specs.declared.csr.CsrOp.{CsrOp}
use Rattle.rv_rows.specs.declared.instr.Instr.{Instr}
use Rattle.rv_rows.specs.declared.instr.Instr.TheVariants.{Lui, Auipc, Jal, Jalr, Branch, Load, Store, AluImm, Alu, MulDiv, LoadReserved, StoreConditional, Amo, Fence, FenceI, Ecall, Ebreak, Sret, Wfi, SfenceVma, Csr, CsrImm}

abbrev pub branch_name : Condition → List ℕ
branch_name Condition.Eq = codes "beq"
branch_name Condition.Ne = codes "bne"
branch_name Condition.Lt = codes "blt"
branch_name Condition.Ge = codes "bge"
branch_name Condition.Ltu = codes "bltu"
branch_name Condition.Geu = codes "bgeu"

abbrev pub load_name : LoadKind → List ℕ
load_name LoadKind.Byte = codes "lb"
load_name LoadKind.Half = codes "lh"
load_name LoadKind.Word = codes "lw"
load_name LoadKind.Double = codes "ld"
load_name LoadKind.ByteUnsigned = codes "lbu"
load_name LoadKind.HalfUnsigned = codes "lhu"
load_name LoadKind.WordUnsigned = codes "lwu"

abbrev pub store_name : Width → List ℕ
store_name Width.Byte = codes "sb"
store_name Width.Half = codes "sh"
store_name Width.Word = codes "sw"
store_name Width.Double = codes "sd"

-- with an immediate; no instruction subtracts one
abbrev pub immediate_name : AluOp → List ℕ
immediate_name AluOp.Add = codes "addi"
immediate_name AluOp.Sub = codes "subi"
immediate_name AluOp.Sll = codes "slli"
immediate_name AluOp.Slt = codes "slti"
immediate_name AluOp.Sltu = codes "sltiu"
immediate_name AluOp.Xor = codes "xori"
immediate_name AluOp.Srl = codes "srli"
immediate_name AluOp.Sra = codes "srai"
immediate_name AluOp.Or = codes "ori"
immediate_name AluOp.And = codes "andi"
immediate_name AluOp.Addw = codes "addiw"
immediate_name AluOp.Subw = codes "subiw"
immediate_name AluOp.Sllw = codes "slliw"
immediate_name AluOp.Srlw = codes "srliw"
immediate_name AluOp.Sraw = codes "sraiw"

abbrev pub alu_name : AluOp → List ℕ
alu_name AluOp.Add = codes "add"
alu_name AluOp.Sub = codes "sub"
alu_name AluOp.Sll = codes "sll"
alu_name AluOp.Slt = codes "slt"
alu_name AluOp.Sltu = codes "sltu"
alu_name AluOp.Xor = codes "xor"
alu_name AluOp.Srl = codes "srl"
alu_name AluOp.Sra = codes "sra"
alu_name AluOp.Or = codes "or"
alu_name AluOp.And = codes "and"
alu_name AluOp.Addw = codes "addw"
alu_name AluOp.Subw = codes "subw"
alu_name AluOp.Sllw = codes "sllw"
alu_name AluOp.Srlw = codes "srlw"
alu_name AluOp.Sraw = codes "sraw"

abbrev pub muldiv_name : MulDivOp → List ℕ
muldiv_name MulDivOp.Mul = codes "mul"
muldiv_name MulDivOp.Mulh = codes "mulh"
muldiv_name MulDivOp.Mulhsu = codes "mulhsu"
muldiv_name MulDivOp.Mulhu = codes "mulhu"
muldiv_name MulDivOp.Div = codes "div"
muldiv_name MulDivOp.Divu = codes "divu"
muldiv_name MulDivOp.Rem = codes "rem"
muldiv_name MulDivOp.Remu = codes "remu"
muldiv_name MulDivOp.Mulw = codes "mulw"
muldiv_name MulDivOp.Divw = codes "divw"
muldiv_name MulDivOp.Divuw = codes "divuw"
muldiv_name MulDivOp.Remw = codes "remw"
muldiv_name MulDivOp.Remuw = codes "remuw"

-- of 8 bytes, and of 4
abbrev pub amo_name : AmoKind → Bool → List ℕ
amo_name AmoKind.Swap wide = if wide then codes "amoswap.d" else codes "amoswap.w"
amo_name AmoKind.Add wide = if wide then codes "amoadd.d" else codes "amoadd.w"
amo_name AmoKind.Xor wide = if wide then codes "amoxor.d" else codes "amoxor.w"
amo_name AmoKind.And wide = if wide then codes "amoand.d" else codes "amoand.w"
amo_name AmoKind.Or wide = if wide then codes "amoor.d" else codes "amoor.w"
amo_name AmoKind.Min wide = if wide then codes "amomin.d" else codes "amomin.w"
amo_name AmoKind.Max wide = if wide then codes "amomax.d" else codes "amomax.w"
amo_name AmoKind.MinUnsigned wide = if wide then codes "amominu.d" else codes "amominu.w"
amo_name AmoKind.MaxUnsigned wide = if wide then codes "amomaxu.d" else codes "amomaxu.w"

abbrev pub csr_name : CsrOp → List ℕ
csr_name CsrOp.Write = codes "csrrw"
csr_name CsrOp.Set = codes "csrrs"
csr_name CsrOp.Clear = codes "csrrc"

abbrev pub csr_immediate_name : CsrOp → List ℕ
csr_immediate_name CsrOp.Write = codes "csrrwi"
csr_immediate_name CsrOp.Set = codes "csrrsi"
csr_immediate_name CsrOp.Clear = codes "csrrci"

abbrev pub name_of : Instr → List ℕ
name_of (Lui rd value) = codes "lui"
name_of (Auipc rd offset) = codes "auipc"
name_of (Jal rd offset) = codes "jal"
name_of (Jalr rd rs1 offset) = codes "jalr"
name_of (Branch condition rs1 rs2 offset) = branch_name condition
name_of (Load kind rd rs1 offset) = load_name kind
name_of (Store width rs1 rs2 offset) = store_name width
name_of (AluImm op rd rs1 value) = immediate_name op
name_of (Alu op rd rs1 rs2) = alu_name op
name_of (MulDiv op rd rs1 rs2) = muldiv_name op
name_of (LoadReserved wide rd rs1) = if wide then codes "lr.d" else codes "lr.w"
name_of (StoreConditional wide rd rs1 rs2) = if wide then codes "sc.d" else codes "sc.w"
name_of (Amo kind wide rd rs1 rs2) = amo_name kind wide
name_of Fence = codes "fence"
name_of FenceI = codes "fence.i"
name_of Ecall = codes "ecall"
name_of Ebreak = codes "ebreak"
name_of Sret = codes "sret"
name_of Wfi = codes "wfi"
name_of SfenceVma = codes "sfence.vma"
name_of (Csr op rd csr rs1) = csr_name op
name_of (CsrImm op rd csr value) = csr_immediate_name op
