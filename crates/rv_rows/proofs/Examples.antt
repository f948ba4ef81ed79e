-- The definitions at the manual's corner cases, worked out by hand.
use Rattle.std.proofs.Common.{◌≡◌, ◌-◌, ◌^◌, true, false, refl}
use Rattle.rv_rows.specs.declared.register.Register.TheVariants.{X0, X1, X2, X3}
use Rattle.rv_rows.specs.declared.alu.AluOp.TheVariants as AluOp
use Rattle.rv_rows.specs.declared.alu.MulDivOp.TheVariants as MulDivOp
use Rattle.rv_rows.specs.declared.branch.Condition.TheVariants as Condition
use Rattle.rv_rows.specs.declared.memory.LoadKind.TheVariants as LoadKind
use Rattle.rv_rows.specs.declared.memory.Width.TheVariants as Width
use Rattle.rv_rows.specs.declared.csr.CsrOp.TheVariants as CsrOp
use Rattle.rv_rows.specs.declared.csr.CsrAccess.TheVariants as CsrAccess
use Rattle.rv_rows.specs.declared.exception.Exception.TheVariants.{InstructionMisaligned, Breakpoint, LoadMisaligned, StoreMisaligned}
use Rattle.rv_rows.specs.declared.effect.Effect.TheVariants as Effect
use Rattle.rv_rows.specs.declared.instr.Instr.TheVariants as Instr
use Rattle.rv_rows.specs.Alu.{alu}
use Rattle.rv_rows.specs.MulDiv.{muldiv}
use Rattle.rv_rows.specs.Branches.{is_taken}
use Rattle.rv_rows.specs.Loads.{load_value, atomic_load_value}
use Rattle.rv_rows.specs.Effects.{effect_of}

-- -2 ^ 63 shifted by 63, and by 64 + 1; -2 ^ 31 as a word, by 31
sra_all : alu AluOp.Sra 0x8000000000000000 63 ≡ 0xffffffffffffffff
sra_all = refl

sra_by_65 : alu AluOp.Sra 0x8000000000000000 65 ≡ 0xc000000000000000
sra_by_65 = refl

sraw_all : alu AluOp.Sraw 0x80000000 31 ≡ 0xffffffffffffffff
sraw_all = refl

subw_sign : alu AluOp.Subw 0x80000000 1 ≡ 0x7fffffff
subw_sign = refl

slt_sign : alu AluOp.Slt 0xffffffffffffffff 0 ≡ 1
slt_sign = refl

-- (-1) * (-1), and (-1) * (2 ^ 64 - 1)
mulh_signs : muldiv MulDivOp.Mulh 0xffffffffffffffff 0xffffffffffffffff ≡ 0
mulh_signs = refl

mulhsu_signs : muldiv MulDivOp.Mulhsu 0xffffffffffffffff 0xffffffffffffffff ≡ 0xffffffffffffffff
mulhsu_signs = refl

mulhu_largest : muldiv MulDivOp.Mulhu 0xffffffffffffffff 0xffffffffffffffff ≡ 0xfffffffffffffffe
mulhu_largest = refl

-- the table of 7.2
div_by_zero : muldiv MulDivOp.Div 5 0 ≡ 2 ^ 64 - 1
div_by_zero = refl

rem_by_zero : muldiv MulDivOp.Rem 5 0 ≡ 5
rem_by_zero = refl

div_overflow : muldiv MulDivOp.Div 0x8000000000000000 0xffffffffffffffff ≡ 0x8000000000000000
div_overflow = refl

rem_overflow : muldiv MulDivOp.Rem 0x8000000000000000 0xffffffffffffffff ≡ 0
rem_overflow = refl

divw_overflow : muldiv MulDivOp.Divw 0x80000000 0xffffffff ≡ 0xffffffff80000000
divw_overflow = refl

divuw_by_zero : muldiv MulDivOp.Divuw 5 0x100000000 ≡ 2 ^ 64 - 1
divuw_by_zero = refl

remuw_by_zero : muldiv MulDivOp.Remuw 0x80000000 0 ≡ 0xffffffff80000000
remuw_by_zero = refl

-- -7 by 2 is -3, and -1 is left
div_towards_zero : muldiv MulDivOp.Div 0xfffffffffffffff9 2 ≡ 0xfffffffffffffffd
div_towards_zero = refl

rem_sign : muldiv MulDivOp.Rem 0xfffffffffffffff9 2 ≡ 0xffffffffffffffff
rem_sign = refl

bge_sign : is_taken Condition.Ge 0xffffffffffffffff 0 ≡ false
bge_sign = refl

lb_sign : load_value LoadKind.Byte 0x80 ≡ 0xffffffffffffff80
lb_sign = refl

lwu_no_sign : load_value LoadKind.WordUnsigned 0x80000000 ≡ 0x80000000
lwu_no_sign = refl

-- a reply of more than 32 bits: LR.W takes its low word
lr_word : atomic_load_value false 0x180000000 ≡ 0xffffffff80000000
lr_word = refl

-- a jump to an address that 4 doesn't divide traps, and so does a branch, but only where it is taken
jal_by_2 : effect_of (Instr.Jal X1 2) 0x1000 0 0 ≡ Effect.Trap InstructionMisaligned 0x1002
jal_by_2 = refl

jalr_drops_bit_0 : effect_of (Instr.Jalr X1 X2 5) 0x1000 0x2000 0 ≡ Effect.Jump X1 0x1004 0x2004
jalr_drops_bit_0 = refl

beq_taken_by_2 : effect_of (Instr.Branch Condition.Eq X1 X2 2) 0x1000 7 7 ≡ Effect.Trap InstructionMisaligned 0x1002
beq_taken_by_2 = refl

beq_not_taken_by_2 : effect_of (Instr.Branch Condition.Eq X1 X2 2) 0x1000 7 8 ≡ Effect.Nothing
beq_not_taken_by_2 = refl

-- the address wraps
auipc_wraps : effect_of (Instr.Auipc X1 (2 ^ 64 - 0x1000)) 0x800 0 0 ≡ Effect.Put X1 (2 ^ 64 - 0x800)
auipc_wraps = refl

ebreak_at_pc : effect_of Instr.Ebreak 0x1000 0 0 ≡ Effect.Trap Breakpoint 0x1000
ebreak_at_pc = refl

lw_by_2 : effect_of (Instr.Load LoadKind.Word X1 X2 2) 0 0x1000 0 ≡ Effect.Trap LoadMisaligned 0x1002
lw_by_2 = refl

lb_anywhere : effect_of (Instr.Load LoadKind.Byte X1 X2 3) 0 0x1000 0 ≡ Effect.Load LoadKind.Byte X1 0x1003
lb_anywhere = refl

sh_low_bytes : effect_of (Instr.Store Width.Half X1 X2 2) 0 0x1000 0x12345 ≡ Effect.Store Width.Half 0x1002 0x2345
sh_low_bytes = refl

lr_is_a_load : effect_of (Instr.LoadReserved true X1 X2) 0 0x1004 0 ≡ Effect.Trap LoadMisaligned 0x1004
lr_is_a_load = refl

sc_is_a_store : effect_of (Instr.StoreConditional false X1 X2 X3) 0 0x1002 0 ≡ Effect.Trap StoreMisaligned 0x1002
sc_is_a_store = refl

-- CSRRS with x0 doesn't write, whatever a is, but CSRRW does
csrrs_x0 : effect_of (Instr.Csr CsrOp.Set X1 0xc01 X0) 0 9 0 ≡ Effect.Csr X1 0xc01 CsrAccess.Read
csrrs_x0 = refl

csrrs_zero : effect_of (Instr.Csr CsrOp.Set X1 0x104 X2) 0 0 0 ≡ Effect.Csr X1 0x104 (CsrAccess.Set 0)
csrrs_zero = refl

csrrw_x0 : effect_of (Instr.Csr CsrOp.Write X1 0x104 X0) 0 0 0 ≡ Effect.Csr X1 0x104 (CsrAccess.Write 0)
csrrw_x0 = refl

csrrci_0 : effect_of (Instr.CsrImm CsrOp.Clear X1 0x104 0) 0 0 0 ≡ Effect.Csr X1 0x104 CsrAccess.Read
csrrci_0 = refl
