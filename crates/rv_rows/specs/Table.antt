-- The table of instructions, one row each, as the manuals list them (unprivileged manual, chapter 24, "RV32/64G
-- Instruction Set Listings"; privileged manual, "RISC-V Privileged Instruction Set Listings"): mask, match, and the
-- instruction as a function of the word.
use Rattle.std.specs.Prelude.{ℕ, Bool, true, false, ◌==◌, if◌then◌else◌, List, [], ◌∷◌, Option, Some, None, bit_and}
use Rattle.rv_rows.specs.declared.register.Register.{Register}
use Rattle.rv_rows.specs.declared.alu.AluOp.TheVariants as AluOp
use Rattle.rv_rows.specs.declared.alu.MulDivOp.TheVariants as MulDivOp
use Rattle.rv_rows.specs.declared.branch.Condition.TheVariants as Condition
use Rattle.rv_rows.specs.declared.memory.LoadKind.TheVariants as LoadKind
use Rattle.rv_rows.specs.declared.memory.Width.TheVariants as Width
use Rattle.vm_types.specs.declared.op.AmoKind.TheVariants as AmoKind
use Rattle.rv_rows.specs.declared.csr.CsrOp.{CsrOp}
use Rattle.rv_rows.specs.declared.instr.Instr.{Instr}
use Rattle.rv_rows.specs.declared.instr.Instr.TheVariants.{Lui, Auipc, Jal, Jalr, Branch, Load, Store, AluImm, Alu, MulDiv, LoadReserved, StoreConditional, Amo, Fence, FenceI, Ecall, Ebreak, Sret, Wfi, SfenceVma, Csr, CsrImm}
use Rattle.rv_rows.specs.Fields.{rd_field, rs1_field, rs2_field, csr_field, csr_immediate, i_immediate, s_immediate, b_immediate, u_immediate, j_immediate, shift_amount, word_shift_amount}

-- a word is a row's instruction where its bits under the mask are those that must match
pub record Encoding : Type 0 where
  pub mask : ℕ
  pub matched : ℕ
  pub instr : ℕ → Instr

abbrev pub row : ℕ → ℕ → (ℕ → Instr) → Encoding
row mask matched instr = record { mask = mask; matched = matched; instr = instr }

-- the types of the manual (2.2 and 2.3)
abbrev pub r_type : (Register → Register → Register → Instr) → ℕ → Instr
r_type instr word = instr (rd_field word) (rs1_field word) (rs2_field word)

abbrev pub i_type : (Register → Register → ℕ → Instr) → ℕ → Instr
i_type instr word = instr (rd_field word) (rs1_field word) (i_immediate word)

abbrev pub s_type : (Register → Register → ℕ → Instr) → ℕ → Instr
s_type instr word = instr (rs1_field word) (rs2_field word) (s_immediate word)

abbrev pub b_type : (Register → Register → ℕ → Instr) → ℕ → Instr
b_type instr word = instr (rs1_field word) (rs2_field word) (b_immediate word)

abbrev pub u_type : (Register → ℕ → Instr) → ℕ → Instr
u_type instr word = instr (rd_field word) (u_immediate word)

abbrev pub j_type : (Register → ℕ → Instr) → ℕ → Instr
j_type instr word = instr (rd_field word) (j_immediate word)

-- shifts by an immediate, of 64 and of 32 bits (5.2)
abbrev pub shift : (Register → Register → ℕ → Instr) → ℕ → Instr
shift instr word = instr (rd_field word) (rs1_field word) (shift_amount word)

abbrev pub word_shift : (Register → Register → ℕ → Instr) → ℕ → Instr
word_shift instr word = instr (rd_field word) (rs1_field word) (word_shift_amount word)

-- the suffixes of the extension A (8.1): 4 bytes, and 8
abbrev pub dot_w : Bool
dot_w = false

abbrev pub dot_d : Bool
dot_d = true

-- LR has no second register (8.2)
abbrev pub lr_type : Bool → ℕ → Instr
lr_type wide word = LoadReserved wide (rd_field word) (rs1_field word)

-- the CSR instructions (9.1)
abbrev pub csr_type : CsrOp → ℕ → Instr
csr_type op word = Csr op (rd_field word) (csr_field word) (rs1_field word)

abbrev pub csr_imm_type : CsrOp → ℕ → Instr
csr_imm_type op word = CsrImm op (rd_field word) (csr_field word) (csr_immediate word)

-- an instruction without operands
abbrev pub plain : Instr → ℕ → Instr
plain instr word = instr

abbrev pub rows : List Encoding
rows =
    -- RV32I and RV64I. The other fields of FENCE may be anything (2.7).
    row 0x0000007f 0x00000037 (u_type Lui)
    ∷ row 0x0000007f 0x00000017 (u_type Auipc)
    ∷ row 0x0000007f 0x0000006f (j_type Jal)
    ∷ row 0x0000707f 0x00000067 (i_type Jalr)
    ∷ row 0x0000707f 0x00000063 (b_type (Branch Condition.Eq))
    ∷ row 0x0000707f 0x00001063 (b_type (Branch Condition.Ne))
    ∷ row 0x0000707f 0x00004063 (b_type (Branch Condition.Lt))
    ∷ row 0x0000707f 0x00005063 (b_type (Branch Condition.Ge))
    ∷ row 0x0000707f 0x00006063 (b_type (Branch Condition.Ltu))
    ∷ row 0x0000707f 0x00007063 (b_type (Branch Condition.Geu))
    ∷ row 0x0000707f 0x00000003 (i_type (Load LoadKind.Byte))
    ∷ row 0x0000707f 0x00001003 (i_type (Load LoadKind.Half))
    ∷ row 0x0000707f 0x00002003 (i_type (Load LoadKind.Word))
    ∷ row 0x0000707f 0x00003003 (i_type (Load LoadKind.Double))
    ∷ row 0x0000707f 0x00004003 (i_type (Load LoadKind.ByteUnsigned))
    ∷ row 0x0000707f 0x00005003 (i_type (Load LoadKind.HalfUnsigned))
    ∷ row 0x0000707f 0x00006003 (i_type (Load LoadKind.WordUnsigned))
    ∷ row 0x0000707f 0x00000023 (s_type (Store Width.Byte))
    ∷ row 0x0000707f 0x00001023 (s_type (Store Width.Half))
    ∷ row 0x0000707f 0x00002023 (s_type (Store Width.Word))
    ∷ row 0x0000707f 0x00003023 (s_type (Store Width.Double))
    ∷ row 0x0000707f 0x00000013 (i_type (AluImm AluOp.Add))
    ∷ row 0x0000707f 0x00002013 (i_type (AluImm AluOp.Slt))
    ∷ row 0x0000707f 0x00003013 (i_type (AluImm AluOp.Sltu))
    ∷ row 0x0000707f 0x00004013 (i_type (AluImm AluOp.Xor))
    ∷ row 0x0000707f 0x00006013 (i_type (AluImm AluOp.Or))
    ∷ row 0x0000707f 0x00007013 (i_type (AluImm AluOp.And))
    ∷ row 0xfc00707f 0x00001013 (shift (AluImm AluOp.Sll))
    ∷ row 0xfc00707f 0x00005013 (shift (AluImm AluOp.Srl))
    ∷ row 0xfc00707f 0x40005013 (shift (AluImm AluOp.Sra))
    ∷ row 0xfe00707f 0x00000033 (r_type (Alu AluOp.Add))
    ∷ row 0xfe00707f 0x40000033 (r_type (Alu AluOp.Sub))
    ∷ row 0xfe00707f 0x00001033 (r_type (Alu AluOp.Sll))
    ∷ row 0xfe00707f 0x00002033 (r_type (Alu AluOp.Slt))
    ∷ row 0xfe00707f 0x00003033 (r_type (Alu AluOp.Sltu))
    ∷ row 0xfe00707f 0x00004033 (r_type (Alu AluOp.Xor))
    ∷ row 0xfe00707f 0x00005033 (r_type (Alu AluOp.Srl))
    ∷ row 0xfe00707f 0x40005033 (r_type (Alu AluOp.Sra))
    ∷ row 0xfe00707f 0x00006033 (r_type (Alu AluOp.Or))
    ∷ row 0xfe00707f 0x00007033 (r_type (Alu AluOp.And))
    ∷ row 0x0000707f 0x0000001b (i_type (AluImm AluOp.Addw))
    ∷ row 0xfe00707f 0x0000101b (word_shift (AluImm AluOp.Sllw))
    ∷ row 0xfe00707f 0x0000501b (word_shift (AluImm AluOp.Srlw))
    ∷ row 0xfe00707f 0x4000501b (word_shift (AluImm AluOp.Sraw))
    ∷ row 0xfe00707f 0x0000003b (r_type (Alu AluOp.Addw))
    ∷ row 0xfe00707f 0x4000003b (r_type (Alu AluOp.Subw))
    ∷ row 0xfe00707f 0x0000103b (r_type (Alu AluOp.Sllw))
    ∷ row 0xfe00707f 0x0000503b (r_type (Alu AluOp.Srlw))
    ∷ row 0xfe00707f 0x4000503b (r_type (Alu AluOp.Sraw))
    ∷ row 0x0000707f 0x0000000f (plain Fence)
    ∷ row 0xffffffff 0x00000073 (plain Ecall)
    ∷ row 0xffffffff 0x00100073 (plain Ebreak)
    -- Zifencei. The other fields of FENCE.I may be anything (chapter 3).
    ∷ row 0x0000707f 0x0000100f (plain FenceI)
    -- Zicsr
    ∷ row 0x0000707f 0x00001073 (csr_type CsrOp.Write)
    ∷ row 0x0000707f 0x00002073 (csr_type CsrOp.Set)
    ∷ row 0x0000707f 0x00003073 (csr_type CsrOp.Clear)
    ∷ row 0x0000707f 0x00005073 (csr_imm_type CsrOp.Write)
    ∷ row 0x0000707f 0x00006073 (csr_imm_type CsrOp.Set)
    ∷ row 0x0000707f 0x00007073 (csr_imm_type CsrOp.Clear)
    -- RV32M and RV64M
    ∷ row 0xfe00707f 0x02000033 (r_type (MulDiv MulDivOp.Mul))
    ∷ row 0xfe00707f 0x02001033 (r_type (MulDiv MulDivOp.Mulh))
    ∷ row 0xfe00707f 0x02002033 (r_type (MulDiv MulDivOp.Mulhsu))
    ∷ row 0xfe00707f 0x02003033 (r_type (MulDiv MulDivOp.Mulhu))
    ∷ row 0xfe00707f 0x02004033 (r_type (MulDiv MulDivOp.Div))
    ∷ row 0xfe00707f 0x02005033 (r_type (MulDiv MulDivOp.Divu))
    ∷ row 0xfe00707f 0x02006033 (r_type (MulDiv MulDivOp.Rem))
    ∷ row 0xfe00707f 0x02007033 (r_type (MulDiv MulDivOp.Remu))
    ∷ row 0xfe00707f 0x0200003b (r_type (MulDiv MulDivOp.Mulw))
    ∷ row 0xfe00707f 0x0200403b (r_type (MulDiv MulDivOp.Divw))
    ∷ row 0xfe00707f 0x0200503b (r_type (MulDiv MulDivOp.Divuw))
    ∷ row 0xfe00707f 0x0200603b (r_type (MulDiv MulDivOp.Remw))
    ∷ row 0xfe00707f 0x0200703b (r_type (MulDiv MulDivOp.Remuw))
    -- RV32A and RV64A: aq and rl, bits 26 and 25, may be any, and LR wants rs2 to be 0
    ∷ row 0xf9f0707f 0x1000202f (lr_type dot_w)
    ∷ row 0xf800707f 0x1800202f (r_type (StoreConditional dot_w))
    ∷ row 0xf800707f 0x0800202f (r_type (Amo AmoKind.Swap dot_w))
    ∷ row 0xf800707f 0x0000202f (r_type (Amo AmoKind.Add dot_w))
    ∷ row 0xf800707f 0x2000202f (r_type (Amo AmoKind.Xor dot_w))
    ∷ row 0xf800707f 0x6000202f (r_type (Amo AmoKind.And dot_w))
    ∷ row 0xf800707f 0x4000202f (r_type (Amo AmoKind.Or dot_w))
    ∷ row 0xf800707f 0x8000202f (r_type (Amo AmoKind.Min dot_w))
    ∷ row 0xf800707f 0xa000202f (r_type (Amo AmoKind.Max dot_w))
    ∷ row 0xf800707f 0xc000202f (r_type (Amo AmoKind.MinUnsigned dot_w))
    ∷ row 0xf800707f 0xe000202f (r_type (Amo AmoKind.MaxUnsigned dot_w))
    ∷ row 0xf9f0707f 0x1000302f (lr_type dot_d)
    ∷ row 0xf800707f 0x1800302f (r_type (StoreConditional dot_d))
    ∷ row 0xf800707f 0x0800302f (r_type (Amo AmoKind.Swap dot_d))
    ∷ row 0xf800707f 0x0000302f (r_type (Amo AmoKind.Add dot_d))
    ∷ row 0xf800707f 0x2000302f (r_type (Amo AmoKind.Xor dot_d))
    ∷ row 0xf800707f 0x6000302f (r_type (Amo AmoKind.And dot_d))
    ∷ row 0xf800707f 0x4000302f (r_type (Amo AmoKind.Or dot_d))
    ∷ row 0xf800707f 0x8000302f (r_type (Amo AmoKind.Min dot_d))
    ∷ row 0xf800707f 0xa000302f (r_type (Amo AmoKind.Max dot_d))
    ∷ row 0xf800707f 0xc000302f (r_type (Amo AmoKind.MinUnsigned dot_d))
    ∷ row 0xf800707f 0xe000302f (r_type (Amo AmoKind.MaxUnsigned dot_d))
    -- the privileged manual, supervisor part: SFENCE.VMA takes any rs1 and rs2, and wants rd to be 0
    ∷ row 0xffffffff 0x10200073 (plain Sret)
    ∷ row 0xffffffff 0x10500073 (plain Wfi)
    ∷ row 0xfe007fff 0x12000073 (plain SfenceVma)
    ∷ []

-- the first row that fits a word
abbrev pub first_row : List Encoding → ℕ → Option Instr
first_row [] word = None
first_row (it ∷ more) word = if bit_and word it.mask == it.matched then Some (it.instr word) else first_row more word

-- what a word is, or None where it is no instruction
unfoldable pub instr_of : ℕ → Option Instr
instr_of word = first_row rows word
