-- What a hart asks for is an access, an act on the board or a wait.
use Rattle.std.proofs.Common.{◌≡◌, ℕ, nat_lt, refl, Bool, true, false, if◌then◌else◌, Option, Some, None}
use Rattle.vm_types.specs.declared.op.Op.{Op}
use Rattle.vm_types.specs.declared.op.BoardOp.{BoardOp}
use Rattle.vm_types.specs.declared.op.BoardOp.TheVariants.{Look, Time, SoftwarePending}
use Rattle.rv_rows.specs.declared.register.Register.{Register}
use Rattle.rv_rows.specs.declared.csr.CsrAccess.{CsrAccess}
use Rattle.rv_rows.specs.declared.effect.Effect.{Effect}
use Rattle.rv_rows.specs.declared.effect.Effect.TheVariants.{Put, Jump, Branch, Nothing, Load, Store, LoadReserved, StoreConditional, Amo, Csr, Trap, Ecall, Sret, Wfi}
use Rattle.rv_rows.specs.declared.instr.Instr.{Instr}
use Rattle.rv_rows.specs.Table.{instr_of}
use Rattle.rv_supervisor.specs.declared.regs.Regs.{Regs}
use Rattle.rv_supervisor.specs.declared.regs.Turn.{Turn}
use Rattle.rv_supervisor.specs.declared.csr.Csr.TheVariants as csr
use Rattle.rv_supervisor.specs.declared.csr.Csr as csr_type
use Rattle.rv_supervisor.specs.Registers.{holds}
use Rattle.rv_supervisor.specs.Csrs.{csr_of, is_read}
use Rattle.rv_doing.specs.Doing.{Doing, Ends, asked}
use Rattle.rv_doing.specs.Does.{does, does_by, performed, csr_access, effect_at}
use Rattle.rv_doing.specs.Sbi.{call_by}
use Rattle.sbi_calls.specs.declared.step.SbiStep.{SbiStep}
use Rattle.sbi_calls.specs.declared.step.SbiStep.TheVariants.{Now, Act}
use Rattle.sbi_calls.specs.Calls.{sbi, is_call_act}
use Rattle.sbi_calls.proofs.Asks.{IsCallStep, sbi_step}
use Rattle.guest_memory.specs.Ram.{ram_start}
use Rattle.hart_trace.specs.Traces.{opening, fetch_fault}
use Rattle.hart_trace.specs.Asks.{is_host_op, is_port_op, is_hart_op, is_hart_board_op}
use Rattle.hart_trace.specs.States.{Hart, op_or_idle, wants_by, hart_wants}

abbrev IsHartDoing : Doing → Type 0
IsHartDoing d = is_hart_op (op_or_idle (asked d)) ≡ true

opens : (turn : Turn) (r : Regs) → is_hart_op (opening turn r) ≡ true
opens Turn.Fetch r = refl
opens Turn.Look r = refl
opens Turn.WakeLook r = refl
opens Turn.Idle r = refl
opens Turn.WakeIdle r = refl

either : (b : Bool) (x y : Doing) → IsHartDoing x → IsHartDoing y → IsHartDoing (if b then x else y)
either true x y first second = first
either false x y first second = second

accesses : (it : Option csr_type.Csr) (rd : Register) (access : CsrAccess) (word : ℕ) (r : Regs)
    → IsHartDoing (csr_access it rd access word r)
accesses None rd access word r = refl
accesses (Some (csr.Hart it)) rd access word r = refl
accesses (Some csr.Sip) rd access word r = refl
accesses (Some csr.Time) rd access word r = either (is_read access) _ _ refl refl

call_acts : (act : BoardOp) → is_call_act act ≡ true → is_hart_board_op act ≡ true
call_acts Look is = refl
call_acts Time is = refl
call_acts (SoftwarePending clear set) is = refl
call_acts act is = is

calls : (step : SbiStep) (r : Regs) → IsCallStep step → IsHartDoing (call_by step r)
calls (Now given) r is = refl
calls (Act act) r is = call_acts act is

performs : (effect : Effect) (word : ℕ) (r : Regs) → IsHartDoing (performed effect word r)
performs (Put rd value) word r = refl
performs (Jump rd link target) word r = refl
performs (Branch target) word r = refl
performs Nothing word r = refl
performs (Load kind rd address) word r = refl
performs (Store width address value) word r = refl
performs (LoadReserved wide rd address) word r = refl
performs (StoreConditional wide rd address value) word r = either (holds r address) _ _ refl refl
performs (Amo kind wide rd address value) word r = refl
performs (Csr rd number access) word r = accesses (csr_of number) rd access word r
performs (Trap exception value) word r = refl
performs Ecall word r = calls (sbi r) r (sbi_step r)
performs Sret word r = refl
performs Wfi word r = refl

by_instr : (instr : Option Instr) (word : ℕ) (r : Regs) → IsHartDoing (does_by instr word r)
by_instr None word r = refl
by_instr (Some instr) word r = performs (effect_at instr r) word r

does_op : (word : ℕ) (r : Regs) → IsHartDoing (does word r)
unfolding does
does_op word r = by_instr (instr_of word) word r

by_begun : (begun : Option ℕ) (r : Regs) → is_hart_op (wants_by begun r) ≡ true
by_begun None r = opens r.turn r
by_begun (Some word) r =
    either (nat_lt r.pc ram_start) (Ends (fetch_fault r)) (does word r) refl (does_op word r)

pub hart_asks : (h : Hart) → is_hart_op (hart_wants h) ≡ true
hart_asks h = by_begun h.begun h.regs

pub no_host : (op : Op) → is_hart_op op ≡ true → is_host_op op ≡ false
no_host (Op.Out act) is = cc
no_host op is = refl

pub no_port : (op : Op) → is_hart_op op ≡ true → is_port_op op ≡ false
no_port (Op.Port port act) is = cc
no_port op is = refl

pub never_host : (h : Hart) → is_host_op (hart_wants h) ≡ false
never_host h = no_host (hart_wants h) (hart_asks h)

pub never_port : (h : Hart) → is_port_op (hart_wants h) ≡ false
never_port h = no_port (hart_wants h) (hart_asks h)
