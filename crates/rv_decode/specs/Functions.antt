-- What the function fields of a word choose in each group, by the number of the field (unprivileged manual, chapter 24,
-- "RV32/64G Instruction Set Listings").
use Rattle.std.specs.Prelude.{ℕ, Bool, true, false, ◌==◌, if◌then◌else◌, List, [], ◌∷◌, Option, Some, None}
use Rattle.rv_rows.specs.declared.alu.AluOp.{AluOp}
use Rattle.rv_rows.specs.declared.alu.MulDivOp.{MulDivOp}
use Rattle.rv_rows.specs.declared.branch.Condition.{Condition}
use Rattle.rv_rows.specs.declared.memory.LoadKind.{LoadKind}
use Rattle.rv_rows.specs.declared.memory.Width.{Width}
use Rattle.vm_types.specs.declared.op.AmoKind.{AmoKind}
use Rattle.rv_rows.specs.declared.csr.CsrOp.{CsrOp}
use Rattle.rv_rows.specs.declared.instr.Instr.{Instr}
use Rattle.rv_rows.specs.declared.instr.Instr.TheVariants.{StoreConditional, Amo}
use Rattle.rv_rows.specs.Fields.{bits}
use Rattle.rv_rows.specs.Table.{r_type, lr_type}

-- the fields
abbrev pub opcode : ℕ → ℕ
opcode word = bits 6 0 word

abbrev pub funct3 : ℕ → ℕ
funct3 word = bits 14 12 word

abbrev pub funct7 : ℕ → ℕ
funct7 word = bits 31 25 word

-- beside a shift amount of 6 bits
abbrev pub funct6 : ℕ → ℕ
funct6 word = bits 31 26 word

-- beside aq and rl
abbrev pub funct5 : ℕ → ℕ
funct5 word = bits 31 27 word

-- the choice of a number in a list
abbrev pub choice : {A : Type 0} → List (ℕ × A) → ℕ → Option A
choice [] n = None
choice (pair ∷ more) n = if n == pair.0 then Some pair.1 else choice more n

-- the instruction that a word is by what is chosen
abbrev pub with_choice : {A : Type 0} → (A → ℕ → Instr) → Option A → ℕ → Option Instr
with_choice form None word = None
with_choice form (Some it) word = Some (form it word)

-- by funct3
abbrev pub load_kinds : List (ℕ × LoadKind)
load_kinds =
    (0, LoadKind.Byte) ∷ (1, LoadKind.Half) ∷ (2, LoadKind.Word) ∷ (3, LoadKind.Double)
    ∷ (4, LoadKind.ByteUnsigned) ∷ (5, LoadKind.HalfUnsigned) ∷ (6, LoadKind.WordUnsigned)
    ∷ []

abbrev pub store_widths : List (ℕ × Width)
store_widths = (0, Width.Byte) ∷ (1, Width.Half) ∷ (2, Width.Word) ∷ (3, Width.Double) ∷ []

abbrev pub branch_conditions : List (ℕ × Condition)
branch_conditions =
    (0, Condition.Eq) ∷ (1, Condition.Ne) ∷ (4, Condition.Lt) ∷ (5, Condition.Ge) ∷ (6, Condition.Ltu)
    ∷ (7, Condition.Geu)
    ∷ []

-- OP-IMM, where it is no shift
abbrev pub immediate_ops : List (ℕ × AluOp)
immediate_ops = (0, AluOp.Add) ∷ (2, AluOp.Slt) ∷ (3, AluOp.Sltu) ∷ (4, AluOp.Xor) ∷ (6, AluOp.Or) ∷ (7, AluOp.And) ∷ []

-- OP with funct7 0, and with funct7 0x20
abbrev pub alu_ops : List (ℕ × AluOp)
alu_ops =
    (0, AluOp.Add) ∷ (1, AluOp.Sll) ∷ (2, AluOp.Slt) ∷ (3, AluOp.Sltu)
    ∷ (4, AluOp.Xor) ∷ (5, AluOp.Srl) ∷ (6, AluOp.Or) ∷ (7, AluOp.And)
    ∷ []

abbrev pub other_alu_ops : List (ℕ × AluOp)
other_alu_ops = (0, AluOp.Sub) ∷ (5, AluOp.Sra) ∷ []

-- OP-32 likewise
abbrev pub word_ops : List (ℕ × AluOp)
word_ops = (0, AluOp.Addw) ∷ (1, AluOp.Sllw) ∷ (5, AluOp.Srlw) ∷ []

abbrev pub other_word_ops : List (ℕ × AluOp)
other_word_ops = (0, AluOp.Subw) ∷ (5, AluOp.Sraw) ∷ []

-- OP and OP-32 with funct7 1
abbrev pub muldiv_ops : List (ℕ × MulDivOp)
muldiv_ops =
    (0, MulDivOp.Mul) ∷ (1, MulDivOp.Mulh) ∷ (2, MulDivOp.Mulhsu) ∷ (3, MulDivOp.Mulhu)
    ∷ (4, MulDivOp.Div) ∷ (5, MulDivOp.Divu) ∷ (6, MulDivOp.Rem) ∷ (7, MulDivOp.Remu)
    ∷ []

abbrev pub word_muldiv_ops : List (ℕ × MulDivOp)
word_muldiv_ops =
    (0, MulDivOp.Mulw) ∷ (4, MulDivOp.Divw) ∷ (5, MulDivOp.Divuw) ∷ (6, MulDivOp.Remw) ∷ (7, MulDivOp.Remuw) ∷ []

-- whether it is of 8 bytes, else of 4
abbrev pub atomic_widths : List (ℕ × Bool)
atomic_widths = (2, false) ∷ (3, true) ∷ []

abbrev pub csr_ops : List (ℕ × CsrOp)
csr_ops = (1, CsrOp.Write) ∷ (2, CsrOp.Set) ∷ (3, CsrOp.Clear) ∷ []

abbrev pub csr_imm_ops : List (ℕ × CsrOp)
csr_imm_ops = (5, CsrOp.Write) ∷ (6, CsrOp.Set) ∷ (7, CsrOp.Clear) ∷ []

-- by funct6: the shifts of OP-IMM, with funct3 1 and with funct3 5
abbrev pub left_shifts : List (ℕ × AluOp)
left_shifts = (0, AluOp.Sll) ∷ []

abbrev pub right_shifts : List (ℕ × AluOp)
right_shifts = (0, AluOp.Srl) ∷ (0x10, AluOp.Sra) ∷ []

-- by funct7: the shifts of OP-IMM-32, with funct3 1 and with funct3 5
abbrev pub left_word_shifts : List (ℕ × AluOp)
left_word_shifts = (0, AluOp.Sllw) ∷ []

abbrev pub right_word_shifts : List (ℕ × AluOp)
right_word_shifts = (0, AluOp.Srlw) ∷ (0x20, AluOp.Sraw) ∷ []

-- by funct5: AMO, where it is neither LR nor SC
abbrev pub amo_kinds : List (ℕ × AmoKind)
amo_kinds =
    (0, AmoKind.Add) ∷ (1, AmoKind.Swap) ∷ (4, AmoKind.Xor) ∷ (8, AmoKind.Or) ∷ (0xc, AmoKind.And)
    ∷ (0x10, AmoKind.Min) ∷ (0x14, AmoKind.Max) ∷ (0x18, AmoKind.MinUnsigned) ∷ (0x1c, AmoKind.MaxUnsigned)
    ∷ []

-- AMO of this width: LR wants rs2 to be 0
abbrev pub atomic_by : Bool → ℕ → ℕ → ℕ → Option Instr
atomic_by wide rs2 n word =
    if n == 2 then (if rs2 == 0 then Some (lr_type wide word) else None)
    else if n == 3 then Some (r_type (StoreConditional wide) word)
    else with_choice (λ kind. r_type (Amo kind wide)) (choice amo_kinds n) word

abbrev pub atomic : Bool → ℕ → Option Instr
atomic wide word = atomic_by wide (bits 24 20 word) (funct5 word) word

abbrev pub atomic_of : Option Bool → ℕ → Option Instr
atomic_of None word = None
atomic_of (Some wide) word = atomic wide word
