-- A hart's accesses are aligned, and so is where it is.
use Rattle.std.proofs.Common.{◌≡◌, ℕ, ◌+◌, ◌*◌, ◌/◌, ◌%◌, ◌^◌, ◌≤◌, ◌==◌, refl, sym, subst, Bool, true, false, if◌then◌else◌}
use Rattle.std.proofs.Common.{nat_le, nat_lt, Option, Some, None, length, arith, ◌-◌, slice_set, bit_and, bit_or}
use Rattle.std.specs.Int.{bit_not, w64}
use Rattle.std.proofs.lemmas.Bool.{eqb-true}
use Rattle.vm_types.specs.declared.op.Op.{Op}
use Rattle.vm_types.specs.declared.op.Op.TheVariants as op
use Rattle.vm_types.specs.declared.op.BoardOp.{BoardOp}
use Rattle.vm_types.specs.declared.op.BoardOp.TheVariants as board
use Rattle.vm_types.specs.declared.reply.Reply.{Reply}
use Rattle.vm_types.specs.declared.reply.Shown.{Shown}
use Rattle.vm_types.specs.declared.reply.Shown.TheVariants.{Pending, Stopped, Start}
use Rattle.vm_types.specs.Fits.{fits}
use Rattle.le_fields.specs.Fields.{bytes_of, little_endian}
use Rattle.le_fields.proofs.Values.{long}
use Rattle.rv_rows.specs.declared.register.Register.{Register}
use Rattle.rv_rows.specs.Registers.{number}
use Rattle.rv_rows.specs.declared.memory.Width.{Width}
use Rattle.rv_rows.specs.declared.memory.LoadKind.{LoadKind}
use Rattle.rv_rows.specs.declared.csr.CsrAccess.{CsrAccess}
use Rattle.rv_rows.specs.declared.csr.CsrAccess.TheVariants as access
use Rattle.rv_rows.specs.declared.exception.Exception.{Exception}
use Rattle.rv_rows.specs.declared.exception.Exception.TheVariants.{InstructionFault, IllegalInstruction, LoadFault, StoreFault}
use Rattle.rv_rows.specs.Exceptions.{code}
use Rattle.rv_rows.specs.declared.effect.Effect.{Effect}
use Rattle.rv_rows.specs.declared.effect.Effect.TheVariants.{Put, Jump, Branch, Nothing, Load, Store, LoadReserved, StoreConditional, Amo, Csr, Trap, Ecall, Sret, Wfi}
use Rattle.rv_rows.specs.declared.instr.Instr.{Instr}
use Rattle.rv_rows.specs.declared.instr.Instr.TheVariants as instr
use Rattle.rv_rows.specs.Loads.{load_bytes, load_width, width_bytes, atomic_bytes, atomic_width, load_value, atomic_load_value}
use Rattle.rv_rows.specs.Branches.{is_taken}
use Rattle.rv_rows.specs.Effects.{effect_of, address_sum}
use Rattle.rv_rows.specs.Table.{instr_of}
use Rattle.rv_rows.specs.Sources.{rs1_of, rs2_of}
use Rattle.rv_supervisor.specs.declared.regs.Regs.{Regs}
use Rattle.rv_supervisor.specs.declared.regs.Turn.{Turn}
use Rattle.rv_supervisor.specs.declared.csr.Csr.TheVariants as csr
use Rattle.rv_supervisor.specs.declared.csr.Csr as csr_type
use Rattle.rv_supervisor.specs.declared.csr.HartCsr.{HartCsr}
use Rattle.rv_supervisor.specs.Registers.{reg, with_reg, holds, granule, without_granule, a0, a1}
use Rattle.rv_supervisor.specs.Ends.{after_instruction, after_jump, after_trap, count_down, with_interrupts_off}
use Rattle.rv_supervisor.specs.Csrs.{csr_of, csr_value, after_access, after_write, is_read, interrupts}
use Rattle.rv_doing.specs.Doing.{Doing, Ends, Asks, asked, ended}
use Rattle.rv_doing.specs.Does.{does, does_by, performed, csr_access, effect_at, illegal}
use Rattle.rv_doing.specs.Replies.{with_result, after_load, after_store, after_reserve, after_conditional, after_amo, after_time, after_sip}
use Rattle.rv_doing.specs.Sbi.{call_by}
use Rattle.sbi_calls.specs.declared.step.SbiReturn.{SbiReturn}
use Rattle.sbi_calls.specs.declared.step.SbiStep.{SbiStep}
use Rattle.sbi_calls.specs.declared.step.SbiStep.TheVariants.{Now, Act}
use Rattle.sbi_calls.specs.Calls.{sbi, success, returns}
use Rattle.sbi_calls.specs.Ends.{after_call, after_answer, after_act, returned}
use Rattle.hart_trace.specs.declared.looks.Interrupt.{Interrupt}
use Rattle.hart_trace.specs.Looks.{looked_at, after_pending, after_interrupt, first_interrupt}
use Rattle.guest_memory.specs.Ram.{ram_start}
use Rattle.hart_trace.specs.Traces.{opening, looked, is_full, executes, fetch_fault}
use Rattle.hart_trace.specs.Asks.{IsNatural, IsNaturalOp, IsAligned}
use Rattle.hart_trace.specs.States.{Hart, op_or_idle, wants_by, fresh, hart_wants, begins_by, hart_fetched, turned_by}
use Rattle.hart_trace.specs.States.{stepped_by, hart_stepped, hart_next}

-- an access at a multiple of its bytes, and a target at a multiple of 4
abbrev IsAlignedEffect : Effect → Type 0
IsAlignedEffect (Jump rd link target) = target % 4 ≡ 0
IsAlignedEffect (Branch target) = target % 4 ≡ 0
IsAlignedEffect (Load kind rd address) = address % load_bytes kind ≡ 0
IsAlignedEffect (Store width address value) = address % width_bytes width ≡ 0
IsAlignedEffect (LoadReserved wide rd address) = address % atomic_bytes wide ≡ 0
IsAlignedEffect (StoreConditional wide rd address value) = address % atomic_bytes wide ≡ 0
IsAlignedEffect (Amo kind wide rd address value) = address % atomic_bytes wide ≡ 0
IsAlignedEffect effect = Unit {0}

either_by : (b : Bool) (x y : Effect) → (b ≡ true → IsAlignedEffect x) → IsAlignedEffect y
    → IsAlignedEffect (if b then x else y)
either_by true x y first second = first refl
either_by false x y first second = second

-- what is aligned, or traps
tested : (size address : ℕ) (x y : Effect) → (address % size ≡ 0 → IsAlignedEffect x) → IsAlignedEffect y
    → IsAlignedEffect (if address % size == 0 then x else y)
tested size address x y first second =
    either_by (address % size == 0) x y (λ is. first (eqb-true (address % size) 0 is)) second

aligned_effect : (it : Instr) (pc a b : ℕ) → IsAlignedEffect (effect_of it pc a b)
aligned_effect (instr.Lui rd value) pc a b = tt
aligned_effect (instr.Auipc rd offset) pc a b = tt
aligned_effect (instr.Jal rd offset) pc a b = tested 4 (address_sum pc offset) _ _ (λ is. is) tt
aligned_effect (instr.Jalr rd rs1 offset) pc a b = tested 4 (address_sum a offset / 2 * 2) _ _ (λ is. is) tt
aligned_effect (instr.Branch condition rs1 rs2 offset) pc a b =
    either_by (is_taken condition a b) _ _ (λ taken. tested 4 (address_sum pc offset) _ _ (λ is. is) tt) tt
aligned_effect (instr.Load kind rd rs1 offset) pc a b =
    tested (load_bytes kind) (address_sum a offset) _ _ (λ is. is) tt
aligned_effect (instr.Store width rs1 rs2 offset) pc a b =
    tested (width_bytes width) (address_sum a offset) _ _ (λ is. is) tt
aligned_effect (instr.AluImm op rd rs1 value) pc a b = tt
aligned_effect (instr.Alu op rd rs1 rs2) pc a b = tt
aligned_effect (instr.MulDiv op rd rs1 rs2) pc a b = tt
aligned_effect (instr.LoadReserved wide rd rs1) pc a b = tested (atomic_bytes wide) a _ _ (λ is. is) tt
aligned_effect (instr.StoreConditional wide rd rs1 rs2) pc a b = tested (atomic_bytes wide) a _ _ (λ is. is) tt
aligned_effect (instr.Amo kind wide rd rs1 rs2) pc a b = tested (atomic_bytes wide) a _ _ (λ is. is) tt
aligned_effect instr.Fence pc a b = tt
aligned_effect instr.FenceI pc a b = tt
aligned_effect instr.Ecall pc a b = tt
aligned_effect instr.Ebreak pc a b = tt
aligned_effect instr.Sret pc a b = tt
aligned_effect instr.Wfi pc a b = tt
aligned_effect instr.SfenceVma pc a b = tt
aligned_effect (instr.Csr op rd number rs1) pc a b = tt
aligned_effect (instr.CsrImm op rd number value) pc a b = tt

in_granule : (width : Width) (at : ℕ) → at % width_bytes width ≡ 0 → at % 8 + width_bytes width ≤ 8
in_granule Width.Byte at is = omega arith
in_granule Width.Half at is = omega (arith, is)
in_granule Width.Word at is = omega (arith, is)
in_granule Width.Double at is = omega (arith, is)

natural_at : (width : Width) (at len : ℕ) → len ≡ width_bytes width → at % width_bytes width ≡ 0 → IsNatural at len
natural_at width at len is aligned = record {
  width = width;
  bytes = is;
  aligned = subst (λ (n : ℕ). at % n ≡ 0) (sym is) aligned;
  granule = subst (λ (n : ℕ). at % 8 + n ≤ 8) (sym is) (in_granule width at aligned);
}

abbrev IsNaturalDoing : Doing → Type 0
IsNaturalDoing d = IsNaturalOp (op_or_idle (asked d))

either : (b : Bool) (x y : Doing) → IsNaturalDoing x → IsNaturalDoing y → IsNaturalDoing (if b then x else y)
either true x y first second = first
either false x y first second = second

accesses : (it : Option csr_type.Csr) (rd : Register) (access : CsrAccess) (word : ℕ) (r : Regs)
    → IsNaturalDoing (csr_access it rd access word r)
accesses None rd access word r = tt
accesses (Some (csr.Hart it)) rd access word r = tt
accesses (Some csr.Sip) rd access word r = tt
accesses (Some csr.Time) rd access word r = either (is_read access) _ _ tt tt

calls : (step : SbiStep) (r : Regs) → IsNaturalDoing (call_by step r)
calls (Now given) r = tt
calls (Act act) r = tt

performs : (effect : Effect) (word : ℕ) (r : Regs) → IsAlignedEffect effect → IsNaturalDoing (performed effect word r)
performs (Put rd value) word r is = tt
performs (Jump rd link target) word r is = tt
performs (Branch target) word r is = tt
performs Nothing word r is = tt
performs (Load kind rd address) word r is = natural_at (load_width kind) address (load_bytes kind) refl is
performs (Store width address value) word r is =
    natural_at width address (length (bytes_of (width_bytes width) value)) (long (width_bytes width) value) is
performs (LoadReserved wide rd address) word r is = natural_at (atomic_width wide) address (atomic_bytes wide) refl is
performs (StoreConditional wide rd address value) word r is =
    either (holds r address) _ _ (natural_at (atomic_width wide) address (atomic_bytes wide) refl is) tt
performs (Amo kind wide rd address value) word r is =
    natural_at (atomic_width wide) address (atomic_bytes wide) refl is
performs (Csr rd number access) word r is = accesses (csr_of number) rd access word r
performs (Trap exception value) word r is = tt
performs Ecall word r is = calls (sbi r) r
performs Sret word r is = tt
performs Wfi word r is = tt

by_instr : (it : Option Instr) (word : ℕ) (r : Regs) → IsNaturalDoing (does_by it word r)
by_instr None word r = tt
by_instr (Some it) word r =
    performs (effect_at it r) word r (aligned_effect it r.pc (reg r (rs1_of it)) (reg r (rs2_of it)))

does_natural : (word : ℕ) (r : Regs) → IsNaturalDoing (does word r)
unfolding does
does_natural word r = by_instr (instr_of word) word r

opens : (turn : Turn) (r : Regs) → r.pc % 4 ≡ 0 → IsNaturalOp (opening turn r)
opens Turn.Fetch r is = natural_at Width.Word r.pc 4 refl is
opens Turn.Look r is = tt
opens Turn.WakeLook r is = tt
opens Turn.Idle r is = tt
opens Turn.WakeIdle r is = tt

by_begun : (begun : Option ℕ) (r : Regs) → IsAligned r → IsNaturalOp (wants_by begun r)
by_begun None r is = opens r.turn r is.0
by_begun (Some word) r is =
    either (nat_lt r.pc ram_start) (Ends (fetch_fault r)) (does word r) tt (does_natural word r)

pub hart_natural : (h : Hart) → IsAligned h.regs → IsNaturalOp (hart_wants h)
hart_natural h is = by_begun h.begun h.regs is

-- and an aligned hart stays so
stays_by : (b : Bool) (x y : Regs) → IsAligned x → IsAligned y → IsAligned (if b then x else y)
stays_by true x y first second = first
stays_by false x y first second = second

counts : (r : Regs) → IsAligned r → IsAligned (count_down r)
counts r is =
    stays_by (nat_le r.count 1) (record r { count = 32; turn = Turn.Look }) (record r { count = r.count - 1 }) is is

puts : (r : Regs) (register : Register) (value : ℕ) → IsAligned r → IsAligned (with_reg r register value)
puts r register value is =
    stays_by (number register == 0) r (record r { x = slice_set r.x (number register - 1) value }) is is

jumps : (target : ℕ) (r : Regs) → target % 4 ≡ 0 → IsAligned r → IsAligned (after_jump target r)
jumps target r at is = counts (record r { pc = target }) (at, is.1, is.2)

finishes : (r : Regs) → IsAligned r → IsAligned (after_instruction r)
finishes r is =
    let pc : r.pc % 4 ≡ 0 = is.0 in
    jumps ((r.pc + 4) % 2 ^ 64) r (omega (arith, pc)) is

traps : (exception : Exception) (value : ℕ) (r : Regs) → IsAligned r → IsAligned (after_trap exception value r)
traps exception value r is =
    counts
    (with_interrupts_off (record r { pc = r.stvec; sepc = r.pc; scause = code exception; stval = value }))
    (is.1, is.1, is.0)

results : (rd : Register) (value : ℕ) (r : Regs) → IsAligned r → IsAligned (with_result rd value r)
results rd value r is = finishes (with_reg r rd value) (puts r rd value is)

writes : (it : HartCsr) (value : ℕ) (r : Regs) → IsAligned r → IsAligned (after_write it value r)
writes HartCsr.Sstatus value r is = is
writes HartCsr.Sie value r is = is
writes HartCsr.Stvec value r is = (is.0, omega arith, is.2)
writes HartCsr.Sscratch value r is = is
writes HartCsr.Sepc value r is = (is.0, is.1, omega arith)
writes HartCsr.Scause value r is = is
writes HartCsr.Stval value r is = is
writes HartCsr.Satp value r is = is

changes : (it : HartCsr) (by : CsrAccess) (r : Regs) → IsAligned r → IsAligned (after_access it by r)
changes it access.Read r is = is
changes it (access.Write value) r is = writes it value r is
changes it (access.Set mask) r is = writes it (bit_or (csr_value it r) mask) r is
changes it (access.Clear mask) r is = writes it (bit_and (csr_value it r) (bit_not w64 mask)) r is

loads : (kind : LoadKind) (rd : Register) (address : ℕ) (reply : Reply) (r : Regs) → IsAligned r
    → IsAligned (after_load kind rd address reply r)
loads kind rd address (Reply.Bytes piece) r is = results rd (load_value kind (little_endian piece)) r is
loads kind rd address reply r is = traps LoadFault address r is

stores : (address : ℕ) (reply : Reply) (r : Regs) → IsAligned r → IsAligned (after_store address reply r)
stores address Reply.Done r is = finishes r is
stores address reply r is = traps StoreFault address r is

reserves : (wide : Bool) (rd : Register) (address : ℕ) (reply : Reply) (r : Regs) → IsAligned r
    → IsAligned (after_reserve wide rd address reply r)
reserves wide rd address (Reply.Word old) r is =
    results rd (atomic_load_value wide old) (record r { held = Some (granule address) }) is
reserves wide rd address reply r is = traps LoadFault address r is

conditions : (rd : Register) (address : ℕ) (reply : Reply) (r : Regs) → IsAligned r
    → IsAligned (after_conditional rd address reply r)
conditions rd address (Reply.Word failed) r is = results rd failed (without_granule r) is
conditions rd address reply r is = traps StoreFault address (without_granule r) is

amos : (wide : Bool) (rd : Register) (address : ℕ) (reply : Reply) (r : Regs) → IsAligned r
    → IsAligned (after_amo wide rd address reply r)
amos wide rd address (Reply.Word old) r is = results rd (atomic_load_value wide old) r is
amos wide rd address reply r is = traps StoreFault address r is

times : (rd : Register) (reply : Reply) (r : Regs) → IsAligned r → IsAligned (after_time rd reply r)
times rd (Reply.Word value) r is = results rd value r is
times rd reply r is = finishes r is

pends : (rd : Register) (reply : Reply) (r : Regs) → IsAligned r → IsAligned (after_sip rd reply r)
pends rd (Reply.Word value) r is = results rd (bit_and value interrupts) r is
pends rd reply r is = finishes r is

returns_to : (given : SbiReturn) (r : Regs) → IsAligned r → IsAligned (after_call given r)
returns_to given r is =
    finishes (with_reg (with_reg r a0 given.error) a1 given.value)
    (puts (with_reg r a0 given.error) a1 given.value (puts r a0 given.error is))

answers : (given : Option SbiReturn) (r : Regs) → IsAligned r → IsAligned (after_answer given r)
answers (Some given) r is = returns_to given r is
answers None r is = finishes r is

acts : (act : BoardOp) (given : Option SbiReturn) (r : Regs) → IsAligned r → IsAligned (after_act act given r)
acts (board.Putchar byte) given r is = finishes (with_reg r a0 0) (puts r a0 0 is)
acts (board.SetTimer deadline) given r is = returns_to (returns success 0) r is
acts board.StopHart given r is = finishes r is
acts act given r is = answers given r is

call_ends : (step : SbiStep) (r : Regs) (reply : Reply) → IsAligned r → IsAligned (ended (call_by step r) reply)
call_ends (Now given) r reply is = returns_to given r is
call_ends (Act act) r reply is = acts act (returned reply) r is

ends_by : (b : Bool) (x y : Doing) (reply : Reply) → IsAligned (ended x reply) → IsAligned (ended y reply)
    → IsAligned (ended (if b then x else y) reply)
ends_by true x y reply first second = first
ends_by false x y reply first second = second

csr_ends : (it : Option csr_type.Csr) (rd : Register) (by : CsrAccess) (word : ℕ) (r : Regs) (reply : Reply)
    → IsAligned r → IsAligned (ended (csr_access it rd by word r) reply)
csr_ends None rd by word r reply is = traps IllegalInstruction word r is
csr_ends (Some (csr.Hart it)) rd by word r reply is =
    results rd (csr_value it r) (after_access it by r) (changes it by r is)
csr_ends (Some csr.Sip) rd by word r reply is = pends rd reply r is
csr_ends (Some csr.Time) rd by word r reply is =
    ends_by (is_read by) (Asks (op.Board board.Time) (λ given. after_time rd given r)) (illegal word r) reply (times rd reply r is) (traps IllegalInstruction word r is)

ends : (effect : Effect) (word : ℕ) (r : Regs) (reply : Reply) → IsAlignedEffect effect → IsAligned r
    → IsAligned (ended (performed effect word r) reply)
ends (Put rd value) word r reply by is = results rd value r is
ends (Jump rd link target) word r reply by is = jumps target (with_reg r rd link) by (puts r rd link is)
ends (Branch target) word r reply by is = jumps target r by is
ends Nothing word r reply by is = finishes r is
ends (Load kind rd address) word r reply by is = loads kind rd address reply r is
ends (Store width address value) word r reply by is = stores address reply r is
ends (LoadReserved wide rd address) word r reply by is = reserves wide rd address reply r is
ends (StoreConditional wide rd address value) word r reply by is =
    ends_by (holds r address) (Asks (op.Sc address value wide) (λ given. after_conditional rd address given r))
    (Ends (with_result rd 1 (without_granule r))) reply (conditions rd address reply r is)
    (results rd 1 (without_granule r) is)
ends (Amo kind wide rd address value) word r reply by is = amos wide rd address reply r is
ends (Csr rd number access) word r reply by is = csr_ends (csr_of number) rd access word r reply is
ends (Trap exception value) word r reply by is = traps exception value r is
ends Ecall word r reply by is = call_ends (sbi r) r reply is
ends Sret word r reply by is =
    counts (record r { pc = r.sepc; status_sie = r.status_spie; status_spie = true }) (is.2, is.1, is.2)
ends Wfi word r reply by is = finishes r is

ends_instr : (it : Option Instr) (word : ℕ) (r : Regs) (reply : Reply) → IsAligned r
    → IsAligned (ended (does_by it word r) reply)
ends_instr None word r reply is = traps IllegalInstruction word r is
ends_instr (Some it) word r reply is =
    ends (effect_at it r) word r reply (aligned_effect it r.pc (reg r (rs1_of it)) (reg r (rs2_of it))) is

does_ends : (word : ℕ) (r : Regs) (reply : Reply) → IsAligned r → IsAligned (ended (does word r) reply)
unfolding does
does_ends word r reply is = ends_instr (instr_of word) word r reply is

executes_ends : (word : ℕ) (r : Regs) (reply : Reply) → IsAligned r → IsAligned (ended (executes word r) reply)
executes_ends word r reply is =
    ends_by (nat_lt r.pc ram_start) (Ends (fetch_fault r)) (does word r) reply (traps InstructionFault r.pc r is)
    (does_ends word r reply is)

pending : (turn : Turn) (first : Option Interrupt) (r : Regs) → IsAligned r → IsAligned (after_pending turn first r)
pending Turn.WakeLook None r is = is
pending turn None r is = is
pending turn (Some interrupt) r is =
    stays_by r.status_sie (after_interrupt interrupt r) (record r { turn = Turn.Fetch }) (is.1, is.1, is.0) is

shows : (shown : Shown) (r : Regs) → IsAligned r → IsAligned (looked_at shown r)
shows (Pending bits) r is = pending r.turn (first_interrupt (bit_and bits r.sie)) r is
shows Stopped r is = is
shows (Start pc number word) r is =
    let put = puts (with_reg r a0 number) a1 word (puts r a0 number is) in
    (omega arith, put.1, put.2)

looks : (reply : Reply) (r : Regs) → IsAligned r → IsAligned (looked reply r)
looks (Reply.Shown shown) r is = shows shown r is
looks reply r is = is

begins : (op : Option Op) (word : ℕ) (r : Regs) (reply : Reply) → IsAligned r
    → IsAligned (begins_by op word r reply).regs
begins (Some op) word r reply is = is
begins None word r reply is = executes_ends word r reply is

fetches : (reply : Reply) (r : Regs) → IsAligned r → IsAligned (hart_fetched r reply).regs
fetches (Reply.Bytes piece) r is = begins (asked (executes (little_endian piece) r)) (little_endian piece) r (Reply.Bytes piece) is
fetches reply r is = traps InstructionFault r.pc r is

turns : (turn : Turn) (r : Regs) (reply : Reply) → IsAligned r → IsAligned (turned_by turn r reply).regs
turns Turn.Fetch r reply is = fetches reply r is
turns Turn.Look r reply is = looks reply r is
turns Turn.WakeLook r reply is = looks reply r is
turns Turn.Idle r reply is = is
turns Turn.WakeIdle r reply is = is

hart_by : (b : Bool) (x y : Hart) → IsAligned x.regs → IsAligned y.regs → IsAligned (if b then x else y).regs
hart_by true x y first second = first
hart_by false x y first second = second

steps_by : (begun : Option ℕ) (r : Regs) (reply : Reply) → IsAligned r → IsAligned (stepped_by begun r reply).regs
steps_by None r reply is = turns r.turn r reply is
steps_by (Some word) r reply is =
    hart_by (is_full reply) (record { regs = r; begun = Some word }) (fresh (ended (executes word r) reply)) is
    (executes_ends word r reply is)

pub hart_aligned : (h : Hart) (reply : Reply) → IsAligned h.regs → IsAligned (hart_next h reply).regs
hart_aligned h reply is =
    hart_by (fits (hart_wants h) reply) (hart_stepped h reply) h (steps_by h.begun h.regs reply is) is
