-- A hart keeps its shape: when it looks next, which interrupts it takes, what it holds and what it has begun.
use Rattle.std.proofs.Common.{◌≡◌, ℕ, ◌+◌, ◌%◌, ◌^◌, ◌==◌, refl, sym, subst, Bool, true, false, if◌then◌else◌}
use Rattle.std.proofs.Common.{nat_le, nat_lt, Option, Some, None, arith, ◌-◌, slice_set, bit_and, bit_or}
use Rattle.std.specs.Int.{bit_not, w64}
use Rattle.vm_types.specs.declared.op.Op.{Op}
use Rattle.vm_types.specs.declared.op.Op.TheVariants as op
use Rattle.vm_types.specs.declared.op.BoardOp.{BoardOp}
use Rattle.vm_types.specs.declared.op.BoardOp.TheVariants as board
use Rattle.vm_types.specs.declared.reply.Reply.{Reply}
use Rattle.vm_types.specs.declared.reply.Shown.{Shown}
use Rattle.vm_types.specs.declared.reply.Shown.TheVariants.{Pending, Stopped, Start}
use Rattle.vm_types.specs.Fits.{fits}
use Rattle.le_fields.specs.Fields.{little_endian}
use Rattle.rv_rows.specs.declared.register.Register.{Register}
use Rattle.rv_rows.specs.Registers.{number}
use Rattle.rv_rows.specs.declared.memory.LoadKind.{LoadKind}
use Rattle.rv_rows.specs.declared.csr.CsrAccess.{CsrAccess}
use Rattle.rv_rows.specs.declared.csr.CsrAccess.TheVariants as access
use Rattle.rv_rows.specs.declared.exception.Exception.{Exception}
use Rattle.rv_rows.specs.declared.exception.Exception.TheVariants.{InstructionFault, IllegalInstruction, LoadFault, StoreFault}
use Rattle.rv_rows.specs.Exceptions.{code}
use Rattle.rv_rows.specs.declared.effect.Effect.{Effect}
use Rattle.rv_rows.specs.declared.effect.Effect.TheVariants.{Put, Jump, Branch, Nothing, Load, Store, LoadReserved, StoreConditional, Amo, Csr, Trap, Ecall, Sret, Wfi}
use Rattle.rv_rows.specs.declared.instr.Instr.{Instr}
use Rattle.rv_rows.specs.Loads.{load_value, atomic_load_value}
use Rattle.rv_rows.specs.Table.{instr_of}
use Rattle.rv_supervisor.specs.declared.regs.Regs.{Regs}
use Rattle.rv_supervisor.specs.declared.regs.Turn.{Turn}
use Rattle.rv_supervisor.specs.declared.csr.Csr.TheVariants as csr
use Rattle.rv_supervisor.specs.declared.csr.Csr as csr_type
use Rattle.rv_supervisor.specs.declared.csr.HartCsr.{HartCsr}
use Rattle.rv_supervisor.specs.Registers.{with_reg, holds, granule, without_granule, a0, a1}
use Rattle.rv_supervisor.specs.Ends.{after_instruction, after_jump, after_trap, count_down, with_interrupts_off}
use Rattle.rv_supervisor.specs.Csrs.{csr_of, csr_value, after_access, after_write, is_read, interrupts}
use Rattle.rv_doing.specs.Doing.{Doing, Ends, Asks, asked, ended}
use Rattle.rv_doing.specs.Does.{does, does_by, performed, csr_access, effect_at, illegal}
use Rattle.rv_doing.specs.Replies.{with_result, after_load, after_store, after_reserve, after_conditional, after_amo, after_time, after_sip}
use Rattle.rv_doing.specs.Sbi.{call_by}
use Rattle.sbi_calls.specs.declared.step.SbiReturn.{SbiReturn}
use Rattle.sbi_calls.specs.declared.step.SbiStep.{SbiStep}
use Rattle.sbi_calls.specs.declared.step.SbiStep.TheVariants.{Now, Act}
use Rattle.sbi_calls.specs.Calls.{sbi, success, returns}
use Rattle.sbi_calls.specs.Ends.{after_call, after_answer, after_act, returned}
use Rattle.hart_trace.specs.declared.looks.Interrupt.{Interrupt}
use Rattle.hart_trace.specs.Looks.{looked_at, after_pending, after_interrupt, first_interrupt}
use Rattle.guest_memory.specs.Ram.{ram_start}
use Rattle.hart_trace.specs.Traces.{looked, is_full, executes, fetch_fault}
use Rattle.hart_trace.specs.States.{Hart, op_or_idle, wants_by, fresh, hart_wants, begins_by, hart_fetched, turned_by}
use Rattle.hart_trace.specs.States.{stepped_by, hart_stepped, hart_next}
use Rattle.std.proofs.Common.{ap}
use Rattle.std.specs.Prelude.{is_some}
use Rattle.std.proofs.lemmas.Bool.{leb-false}
use Rattle.guest_memory.specs.Words.{width_of}
use Rattle.hart_trace.specs.Kept.{IsAsking, IsHeld, IsRamReply, IsShape, IsShaped}
use Rattle.hart_trace.proofs.Effects.{held_by, wide_some}
use Rattle.hart_trace.proofs.Naturals.{hart_aligned}
use Rattle.hart_trace.proofs.Registers.{bits_stay}
use Rattle.rv_supervisor.specs.Start.{start_regs, zero_regs}
use Rattle.hart_trace.specs.Stopped.{stopped_regs}

module _ (size : ℕ) where
  shape_by : (b : Bool) (x y : Regs) → (b ≡ true → IsShape size x) → (b ≡ false → IsShape size y) → IsShape size (if b then x else y)
  shape_by true x y first second = first refl
  shape_by false x y first second = second refl

  counts : (r : Regs) → IsShape size r → IsShape size (count_down r)
  counts r is =
      shape_by (nat_le r.count 1) (record r { count = 32; turn = Turn.Look }) (record r { count = r.count - 1 })
      (λ last. (omega arith, omega arith, is.2, is.3))
      (λ more. let few = is.1 in (omega (arith, leb-false r.count 1 more), omega (arith, few), is.2, is.3))

  puts : (r : Regs) (register : Register) (value : ℕ) → IsShape size r → IsShape size (with_reg r register value)
  puts r register value is =
      shape_by (number register == 0) r (record r { x = slice_set r.x (number register - 1) value }) (λ yes. is) (λ no. is)

  jumps : (target : ℕ) (r : Regs) → IsShape size r → IsShape size (after_jump target r)
  jumps target r is = counts (record r { pc = target }) is

  finishes : (r : Regs) → IsShape size r → IsShape size (after_instruction r)
  finishes r is = jumps ((r.pc + 4) % 2 ^ 64) r is

  traps : (exception : Exception) (value : ℕ) (r : Regs) → IsShape size r → IsShape size (after_trap exception value r)
  traps exception value r is =
      counts (with_interrupts_off (record r { pc = r.stvec; sepc = r.pc; scause = code exception; stval = value })) is

  results : (rd : Register) (value : ℕ) (r : Regs) → IsShape size r → IsShape size (with_result rd value r)
  results rd value r is = finishes (with_reg r rd value) (puts r rd value is)

  writes : (it : HartCsr) (value : ℕ) (r : Regs) → IsShape size r → IsShape size (after_write it value r)
  writes HartCsr.Sstatus value r is = is
  writes HartCsr.Sie value r is = (is.0, is.1, bits_stay size value, is.3)
  writes HartCsr.Stvec value r is = is
  writes HartCsr.Sscratch value r is = is
  writes HartCsr.Sepc value r is = is
  writes HartCsr.Scause value r is = is
  writes HartCsr.Stval value r is = is
  writes HartCsr.Satp value r is = is

  changes : (it : HartCsr) (by : CsrAccess) (r : Regs) → IsShape size r → IsShape size (after_access it by r)
  changes it access.Read r is = is
  changes it (access.Write value) r is = writes it value r is
  changes it (access.Set mask) r is = writes it (bit_or (csr_value it r) mask) r is
  changes it (access.Clear mask) r is = writes it (bit_and (csr_value it r) (bit_not w64 mask)) r is

  loads : (kind : LoadKind) (rd : Register) (address : ℕ) (reply : Reply) (r : Regs) → IsShape size r
      → IsShape size (after_load kind rd address reply r)
  loads kind rd address (Reply.Bytes piece) r is = results rd (load_value kind (little_endian piece)) r is
  loads kind rd address reply r is = traps LoadFault address r is

  stores : (address : ℕ) (reply : Reply) (r : Regs) → IsShape size r → IsShape size (after_store address reply r)
  stores address Reply.Done r is = finishes r is
  stores address reply r is = traps StoreFault address r is

  reserves : (wide : Bool) (rd : Register) (address : ℕ) (reply : Reply) (r : Regs) → size % 8 ≡ 0
      → IsRamReply size (Op.Lr address wide) reply → IsShape size r → IsShape size (after_reserve wide rd address reply r)
  reserves wide rd address (Reply.Word old) r whole ram is =
      let held : IsHeld size (Some (granule address)) =
      held_by size address (width_of wide) whole (omega (arith, wide_some size wide)) ram in
      results rd (atomic_load_value wide old) (record r { held = Some (granule address) }) (is.0, is.1, is.2, held)
  reserves wide rd address reply r whole ram is = traps LoadFault address r is

  lets_go : (r : Regs) → IsShape size r → IsShape size (without_granule r)
  lets_go r is = (is.0, is.1, is.2, tt)

  conditions : (rd : Register) (address : ℕ) (reply : Reply) (r : Regs) → IsShape size r
      → IsShape size (after_conditional rd address reply r)
  conditions rd address (Reply.Word failed) r is = results rd failed (without_granule r) (lets_go r is)
  conditions rd address reply r is = traps StoreFault address (without_granule r) (lets_go r is)

  amos : (wide : Bool) (rd : Register) (address : ℕ) (reply : Reply) (r : Regs) → IsShape size r
      → IsShape size (after_amo wide rd address reply r)
  amos wide rd address (Reply.Word old) r is = results rd (atomic_load_value wide old) r is
  amos wide rd address reply r is = traps StoreFault address r is

  times : (rd : Register) (reply : Reply) (r : Regs) → IsShape size r → IsShape size (after_time rd reply r)
  times rd (Reply.Word value) r is = results rd value r is
  times rd reply r is = finishes r is

  pends : (rd : Register) (reply : Reply) (r : Regs) → IsShape size r → IsShape size (after_sip rd reply r)
  pends rd (Reply.Word value) r is = results rd (bit_and value interrupts) r is
  pends rd reply r is = finishes r is

  returns_to : (given : SbiReturn) (r : Regs) → IsShape size r → IsShape size (after_call given r)
  returns_to given r is =
      finishes (with_reg (with_reg r a0 given.error) a1 given.value)
      (puts (with_reg r a0 given.error) a1 given.value (puts r a0 given.error is))

  answers : (given : Option SbiReturn) (r : Regs) → IsShape size r → IsShape size (after_answer given r)
  answers (Some given) r is = returns_to given r is
  answers None r is = finishes r is

  acts : (act : BoardOp) (given : Option SbiReturn) (r : Regs) → IsShape size r → IsShape size (after_act act given r)
  acts (board.Putchar byte) given r is = finishes (with_reg r a0 0) (puts r a0 0 is)
  acts (board.SetTimer deadline) given r is = returns_to (returns success 0) r is
  acts board.StopHart given r is = finishes r is
  acts act given r is = answers given r is

  call_ends : (step : SbiStep) (r : Regs) (reply : Reply) → IsShape size r → IsShape size (ended (call_by step r) reply)
  call_ends (Now given) r reply is = returns_to given r is
  call_ends (Act act) r reply is = acts act (returned reply) r is

  abbrev IsRamTo : Doing → Reply → Type 0
  IsRamTo d reply = IsRamReply size (op_or_idle (asked d)) reply

  ends_by : (b : Bool) (x y : Doing) (reply : Reply) → (IsRamTo x reply → IsShape size (ended x reply))
      → (IsRamTo y reply → IsShape size (ended y reply)) → IsRamTo (if b then x else y) reply
      → IsShape size (ended (if b then x else y) reply)
  ends_by true x y reply first second to = first to
  ends_by false x y reply first second to = second to

  csr_ends : (it : Option csr_type.Csr) (rd : Register) (by : CsrAccess) (word : ℕ) (r : Regs) (reply : Reply)
      → IsRamTo (csr_access it rd by word r) reply → IsShape size r → IsShape size (ended (csr_access it rd by word r) reply)
  csr_ends None rd by word r reply to is = traps IllegalInstruction word r is
  csr_ends (Some (csr.Hart it)) rd by word r reply to is =
      results rd (csr_value it r) (after_access it by r) (changes it by r is)
  csr_ends (Some csr.Sip) rd by word r reply to is = pends rd reply r is
  csr_ends (Some csr.Time) rd by word r reply to is =
      ends_by (is_read by) (Asks (op.Board board.Time) (λ given. after_time rd given r)) (illegal word r) reply
      (λ asks. times rd reply r is) (λ asks. traps IllegalInstruction word r is) to

  ends : (effect : Effect) (word : ℕ) (r : Regs) (reply : Reply) → size % 8 ≡ 0 → IsRamTo (performed effect word r) reply
      → IsShape size r → IsShape size (ended (performed effect word r) reply)
  ends (Put rd value) word r reply whole to is = results rd value r is
  ends (Jump rd link target) word r reply whole to is = jumps target (with_reg r rd link) (puts r rd link is)
  ends (Branch target) word r reply whole to is = jumps target r is
  ends Nothing word r reply whole to is = finishes r is
  ends (Load kind rd address) word r reply whole to is = loads kind rd address reply r is
  ends (Store width address value) word r reply whole to is = stores address reply r is
  ends (LoadReserved wide rd address) word r reply whole to is = reserves wide rd address reply r whole to is
  ends (StoreConditional wide rd address value) word r reply whole to is =
      ends_by (holds r address) (Asks (op.Sc address value wide) (λ given. after_conditional rd address given r))
      (Ends (with_result rd 1 (without_granule r))) reply (λ asks. conditions rd address reply r is)
      (λ asks. results rd 1 (without_granule r) (lets_go r is)) to
  ends (Amo kind wide rd address value) word r reply whole to is = amos wide rd address reply r is
  ends (Csr rd number access) word r reply whole to is = csr_ends (csr_of number) rd access word r reply to is
  ends (Trap exception value) word r reply whole to is = traps exception value r is
  ends Ecall word r reply whole to is = call_ends (sbi r) r reply is
  ends Sret word r reply whole to is = counts (record r { pc = r.sepc; status_sie = r.status_spie; status_spie = true }) is
  ends Wfi word r reply whole to is = finishes r is

  ends_instr : (it : Option Instr) (word : ℕ) (r : Regs) (reply : Reply) → size % 8 ≡ 0 → IsRamTo (does_by it word r) reply
      → IsShape size r → IsShape size (ended (does_by it word r) reply)
  ends_instr None word r reply whole to is = traps IllegalInstruction word r is
  ends_instr (Some it) word r reply whole to is = ends (effect_at it r) word r reply whole to is

  does_ends : (word : ℕ) (r : Regs) (reply : Reply) → size % 8 ≡ 0 → IsRamTo (does word r) reply → IsShape size r
      → IsShape size (ended (does word r) reply)
  unfolding does
  does_ends word r reply whole to is = ends_instr (instr_of word) word r reply whole to is

  executes_ends : (word : ℕ) (r : Regs) (reply : Reply) → size % 8 ≡ 0 → IsRamTo (executes word r) reply → IsShape size r
      → IsShape size (ended (executes word r) reply)
  executes_ends word r reply whole to is =
      ends_by (nat_lt r.pc ram_start) (Ends (fetch_fault r)) (does word r) reply (λ asks. traps InstructionFault r.pc r is)
      (λ asks. does_ends word r reply whole asks is) to

  pending : (turn : Turn) (first : Option Interrupt) (r : Regs) → IsShape size r → IsShape size (after_pending turn first r)
  pending Turn.WakeLook None r is = is
  pending turn None r is = is
  pending turn (Some interrupt) r is =
      shape_by r.status_sie (after_interrupt interrupt r) (record r { turn = Turn.Fetch }) (λ on. is) (λ off. is)

  shows : (shown : Shown) (r : Regs) → IsShape size r → IsShape size (looked_at shown r)
  shows (Pending bits) r is = pending r.turn (first_interrupt (bit_and bits r.sie)) r is
  shows Stopped r is = is
  shows (Start pc number word) r is = puts (with_reg r a0 number) a1 word (puts r a0 number is)

  looks : (reply : Reply) (r : Regs) → IsShape size r → IsShape size (looked reply r)
  looks (Reply.Shown shown) r is = shows shown r is
  looks reply r is = is

  -- ---- the hart

  abbrev IsHart : Hart → Type 0
  IsHart h = IsShape size h.regs × IsAsking h.begun h.regs

  begins : (o : Option Op) (word : ℕ) (r : Regs) (reply : Reply) → size % 8 ≡ 0 → r.turn ≡ Turn.Fetch
      → asked (executes word r) ≡ o → IsShape size r → IsHart (begins_by o word r reply)
  begins (Some it) word r reply whole fetches asks is = (is, (fetches, ap (λ (o : Option Op). is_some o) asks))
  begins None word r reply whole fetches asks is = (
    executes_ends word r reply whole (subst (λ (o : Option Op). IsRamReply size (op_or_idle o) reply) (sym asks) tt) is,
    tt,
  )

  fetches : (reply : Reply) (r : Regs) → size % 8 ≡ 0 → r.turn ≡ Turn.Fetch → IsShape size r → IsHart (hart_fetched r reply)
  fetches (Reply.Bytes piece) r whole turn is =
      begins (asked (executes (little_endian piece) r)) (little_endian piece) r (Reply.Bytes piece) whole turn refl is
  fetches reply r whole turn is = (traps InstructionFault r.pc r is, tt)

  turns : (turn : Turn) (r : Regs) (reply : Reply) → size % 8 ≡ 0 → r.turn ≡ turn → IsShape size r
      → IsHart (turned_by turn r reply)
  turns Turn.Fetch r reply whole here is = fetches reply r whole here is
  turns Turn.Look r reply whole here is = (looks reply r is, tt)
  turns Turn.WakeLook r reply whole here is = (looks reply r is, tt)
  turns Turn.Idle r reply whole here is = (is, tt)
  turns Turn.WakeIdle r reply whole here is = (is, tt)

  hart_by : (b : Bool) (x y : Hart) → IsHart x → IsHart y → IsHart (if b then x else y)
  hart_by true x y first second = first
  hart_by false x y first second = second

  steps_by : (begun : Option ℕ) (r : Regs) (reply : Reply) → size % 8 ≡ 0 → IsRamReply size (wants_by begun r) reply
      → IsAsking begun r → IsShape size r → IsHart (stepped_by begun r reply)
  steps_by None r reply whole to begun is = turns r.turn r reply whole refl is
  steps_by (Some word) r reply whole to begun is =
      hart_by (is_full reply) (record { regs = r; begun = Some word }) (fresh (ended (executes word r) reply)) (is, begun)
      (executes_ends word r reply whole to is, tt)

  pub hart_shaped : (h : Hart) (reply : Reply) → size % 8 ≡ 0 → IsRamReply size (hart_wants h) reply → IsShaped size h
      → IsShaped size (hart_next h reply)
  hart_shaped h reply whole to shaped =
      let is =
      hart_by (fits (hart_wants h) reply) (hart_stepped h reply) h (steps_by h.begun h.regs reply whole to shaped.begun shaped.regs)
      (shaped.regs, shaped.begun) in
      record { regs = is.0; aligned = hart_aligned h reply shaped.aligned; begun = is.1 }

  zeros : (pc : ℕ) → IsShape size (zero_regs pc)
  zeros pc = (omega arith, omega arith, refl, tt)

  pub stopped_shaped : IsShaped size (fresh stopped_regs)
  stopped_shaped = record { regs = zeros 0; aligned = (refl, refl, refl); begun = tt }

  pub start_shaped : (pc first second : ℕ) → pc % 4 ≡ 0 → IsShaped size (fresh (start_regs pc first second))
  start_shaped pc first second aligned = record { regs = zeros pc; aligned = (aligned, refl, refl); begun = tt }
