-- What each effect does: one line an effect. It ends the instruction, or wants one access and ends it by the reply.
use Rattle.std.specs.Prelude.{ℕ, if◌then◌else◌, Option, Some, None}
use Rattle.vm_types.specs.declared.op.Op.TheVariants as op
use Rattle.vm_types.specs.declared.op.BoardOp.TheVariants as board
use Rattle.le_fields.specs.Fields.{bytes_of}
use Rattle.rv_rows.specs.declared.register.Register.{Register}
use Rattle.rv_rows.specs.declared.csr.CsrAccess.{CsrAccess}
use Rattle.rv_rows.specs.declared.exception.Exception.TheVariants.{IllegalInstruction}
use Rattle.rv_rows.specs.declared.instr.Instr.{Instr}
use Rattle.rv_rows.specs.declared.effect.Effect.{Effect}
use Rattle.rv_rows.specs.declared.effect.Effect.TheVariants.{Put, Jump, Branch, Nothing, Load, Store, LoadReserved, StoreConditional, Amo, Csr, Trap, Ecall, Sret, Wfi}
use Rattle.rv_rows.specs.Loads.{load_bytes, width_bytes}
use Rattle.rv_rows.specs.Sources.{rs1_of, rs2_of}
use Rattle.rv_rows.specs.Effects.{effect_of}
use Rattle.rv_rows.specs.Table.{instr_of}
use Rattle.rv_supervisor.specs.declared.regs.Regs.{Regs}
use Rattle.rv_supervisor.specs.declared.csr.Csr.TheVariants as csr
use Rattle.rv_supervisor.specs.declared.csr.Csr as csr_type
use Rattle.rv_supervisor.specs.Registers.{reg, with_reg, holds, without_granule}
use Rattle.rv_supervisor.specs.Ends.{after_instruction, after_jump, after_trap, after_sret, after_wfi}
use Rattle.rv_supervisor.specs.Csrs.{csr_of, csr_value, after_access, software_cleared, software_set, is_read}
use Rattle.rv_doing.specs.Doing.{Doing, Ends, Asks}
use Rattle.rv_doing.specs.Replies.{with_result, after_load, after_store, after_reserve, after_conditional, after_amo, after_time, after_sip}
use Rattle.rv_doing.specs.Sbi.{call}

-- the instruction is illegal, and its word goes into stval
abbrev pub illegal : ℕ → Regs → Doing
illegal word r = Ends (after_trap IllegalInstruction word r)

-- a CSR of the hart, one that the board keeps, or none
abbrev pub csr_access : Option csr_type.Csr → Register → CsrAccess → ℕ → Regs → Doing
csr_access None rd access word r = illegal word r
csr_access (Some (csr.Hart it)) rd access word r = Ends (with_result rd (csr_value it r) (after_access it access r))
csr_access (Some csr.Sip) rd access word r =
    Asks (op.Board (board.SoftwarePending (software_cleared access) (software_set access)))
    (λ reply. after_sip rd reply r)
csr_access (Some csr.Time) rd access word r =
    if is_read access then Asks (op.Board board.Time) (λ reply. after_time rd reply r) else illegal word r

-- an SC where the hart doesn't hold the granule stores nothing and makes no access
abbrev pub performed : Effect → ℕ → Regs → Doing
performed (Put rd value) word r = Ends (with_result rd value r)
performed (Jump rd link target) word r = Ends (after_jump target (with_reg r rd link))
performed (Branch target) word r = Ends (after_jump target r)
performed Nothing word r = Ends (after_instruction r)
performed (Load kind rd address) word r =
    Asks (op.Read address (load_bytes kind)) (λ reply. after_load kind rd address reply r)
performed (Store width address value) word r =
    Asks (op.Write address (bytes_of (width_bytes width) value)) (λ reply. after_store address reply r)
performed (LoadReserved wide rd address) word r =
    Asks (op.Lr address wide) (λ reply. after_reserve wide rd address reply r)
performed (StoreConditional wide rd address value) word r =
    if holds r address then Asks (op.Sc address value wide) (λ reply. after_conditional rd address reply r)
    else Ends (with_result rd 1 (without_granule r))
performed (Amo kind wide rd address value) word r =
    Asks (op.Amo address value kind wide) (λ reply. after_amo wide rd address reply r)
performed (Csr rd number access) word r = csr_access (csr_of number) rd access word r
performed (Trap exception value) word r = Ends (after_trap exception value r)
performed Ecall word r = call r
performed Sret word r = Ends (after_sret r)
performed Wfi word r = Ends (after_wfi r)

-- with the values of the registers that the instruction reads
abbrev pub effect_at : Instr → Regs → Effect
effect_at instr r = effect_of instr r.pc (reg r (rs1_of instr)) (reg r (rs2_of instr))

abbrev pub does_by : Option Instr → ℕ → Regs → Doing
does_by None word r = illegal word r
does_by (Some instr) word r = performed (effect_at instr r) word r

-- what the word of an instruction does
unfoldable pub does : ℕ → Regs → Doing
does word r = does_by (instr_of word) word r
