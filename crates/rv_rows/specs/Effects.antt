-- What an instruction does, given its own address and the values of the two registers that it reads.
use Rattle.std.specs.Prelude.{ℕ, ◌+◌, ◌*◌, ◌/◌, ◌%◌, ◌^◌, ◌==◌, if◌then◌else◌}
use Rattle.rv_rows.specs.declared.register.Register.{Register}
use Rattle.rv_rows.specs.declared.csr.CsrOp.{CsrOp}
use Rattle.rv_rows.specs.declared.csr.CsrAccess.{CsrAccess}
use Rattle.rv_rows.specs.declared.csr.CsrAccess.TheVariants.{Read, Write, Set, Clear}
use Rattle.rv_rows.specs.declared.exception.Exception.{Exception}
use Rattle.rv_rows.specs.declared.exception.Exception.TheVariants.{InstructionMisaligned, Breakpoint, LoadMisaligned, StoreMisaligned}
use Rattle.rv_rows.specs.declared.effect.Effect.{Effect}
use Rattle.rv_rows.specs.declared.instr.Instr.{Instr}
use Rattle.rv_rows.specs.declared.instr.Instr.TheVariants.{Lui, Auipc, Jal, Jalr, Branch, Load, Store, AluImm, Alu, MulDiv, LoadReserved, StoreConditional, Amo, Fence, FenceI, Ecall, Ebreak, Sret, Wfi, SfenceVma, Csr, CsrImm}
use Rattle.rv_rows.specs.Registers.{number}
use Rattle.rv_rows.specs.Alu.{alu}
use Rattle.rv_rows.specs.MulDiv.{muldiv}
use Rattle.rv_rows.specs.Branches.{is_taken}
use Rattle.rv_rows.specs.Loads.{load_bytes, width_bytes, atomic_bytes, low_bytes}

-- a sum of addresses
abbrev pub address_sum : ℕ → ℕ → ℕ
address_sum base offset = (base + offset) % 2 ^ 64

-- The targets of jumps and taken branches are multiples of 4: a jump or taken branch to another address traps itself
-- (unprivileged manual, 2.5), and the target goes into stval (privileged manual, supervisor part, "stval").
abbrev pub transfer : ℕ → Effect → Effect
transfer target effect = if target % 4 == 0 then effect else Effect.Trap InstructionMisaligned target

abbrev pub jump : Register → ℕ → ℕ → Effect
jump rd pc target = transfer target (Effect.Jump rd (address_sum pc 4) target)

-- an access of some bytes at an address that isn't a multiple of them traps, and the address goes into stval
abbrev pub if_aligned : ℕ → ℕ → Exception → Effect → Effect
if_aligned size address exception effect = if address % size == 0 then effect else Effect.Trap exception address

-- a CSR instruction that sets or clears bits doesn't write where its source is x0, or the immediate 0 (9.1)
abbrev pub csr_access : CsrOp → ℕ → ℕ → CsrAccess
csr_access CsrOp.Write source value = Write value
csr_access CsrOp.Set source value = if source == 0 then Read else Set value
csr_access CsrOp.Clear source value = if source == 0 then Read else Clear value

-- a is the value of rs1, and b of rs2
abbrev pub effect_of : Instr → ℕ → ℕ → ℕ → Effect
effect_of (Lui rd value) pc a b = Effect.Put rd value
effect_of (Auipc rd offset) pc a b = Effect.Put rd (address_sum pc offset)
effect_of (Jal rd offset) pc a b = jump rd pc (address_sum pc offset)
effect_of (Jalr rd rs1 offset) pc a b = jump rd pc (address_sum a offset / 2 * 2)
effect_of (Branch condition rs1 rs2 offset) pc a b =
    if is_taken condition a b then transfer (address_sum pc offset) (Effect.Branch (address_sum pc offset))
    else Effect.Nothing
effect_of (Load kind rd rs1 offset) pc a b =
    if_aligned (load_bytes kind) (address_sum a offset) LoadMisaligned (Effect.Load kind rd (address_sum a offset))
effect_of (Store width rs1 rs2 offset) pc a b =
    if_aligned (width_bytes width) (address_sum a offset) StoreMisaligned
    (Effect.Store width (address_sum a offset) (low_bytes (width_bytes width) b))
effect_of (AluImm op rd rs1 value) pc a b = Effect.Put rd (alu op a value)
effect_of (Alu op rd rs1 rs2) pc a b = Effect.Put rd (alu op a b)
effect_of (MulDiv op rd rs1 rs2) pc a b = Effect.Put rd (muldiv op a b)
effect_of (LoadReserved wide rd rs1) pc a b =
    if_aligned (atomic_bytes wide) a LoadMisaligned (Effect.LoadReserved wide rd a)
effect_of (StoreConditional wide rd rs1 rs2) pc a b =
    if_aligned (atomic_bytes wide) a StoreMisaligned
    (Effect.StoreConditional wide rd a (low_bytes (atomic_bytes wide) b))
effect_of (Amo kind wide rd rs1 rs2) pc a b =
    if_aligned (atomic_bytes wide) a StoreMisaligned (Effect.Amo kind wide rd a b)
effect_of Fence pc a b = Effect.Nothing
effect_of FenceI pc a b = Effect.Nothing
effect_of Ecall pc a b = Effect.Ecall
effect_of Ebreak pc a b = Effect.Trap Breakpoint pc
effect_of Sret pc a b = Effect.Sret
effect_of Wfi pc a b = Effect.Wfi
effect_of SfenceVma pc a b = Effect.Nothing
effect_of (Csr op rd csr rs1) pc a b = Effect.Csr rd csr (csr_access op (number rs1) a)
effect_of (CsrImm op rd csr value) pc a b = Effect.Csr rd csr (csr_access op value value)
