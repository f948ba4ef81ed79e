-- A hart that a state file can have stays one, with what a machine replies.
use Rattle.std.proofs.Common.{◌≡◌, ◌<◌, ℕ, ◌+◌, ◌*◌, ◌/◌, ◌%◌, ◌^◌, refl, sym, ap, subst, Bool, true, false, if◌then◌else◌}
use Rattle.std.proofs.Common.{nat_lt, List, Option, Some, None, length, arith, bit_and}
use Rattle.std.specs.Prelude.{is_some}
use Rattle.std.specs.List.{All}
use Rattle.std.proofs.lemmas.Bool.{eqb-true}
use Rattle.std.proofs.lemmas.List.Elements.{All-replicate}
use Rattle.vm_types.specs.declared.op.Op.{Op}
use Rattle.vm_types.specs.declared.op.Op.TheVariants as op
use Rattle.vm_types.specs.declared.op.BoardOp.TheVariants as board
use Rattle.vm_types.specs.declared.reply.Reply.{Reply}
use Rattle.vm_types.specs.declared.reply.Shown.{Shown}
use Rattle.vm_types.specs.declared.reply.Shown.TheVariants.{Pending, Stopped, Start}
use Rattle.vm_types.specs.Fits.{fits}
use Rattle.le_fields.specs.Fields.{IsByte, little_endian}
use Rattle.le_fields.proofs.Values.{all_bytes, value_below}
use Rattle.guest_memory.specs.Ram.{ram_start}
use Rattle.rv_rows.specs.declared.register.Register.{Register}
use Rattle.rv_rows.specs.Registers.{number}
use Rattle.rv_rows.specs.declared.csr.CsrAccess.{CsrAccess}
use Rattle.rv_rows.specs.declared.exception.Exception.TheVariants.{InstructionFault}
use Rattle.rv_rows.specs.declared.effect.Effect.{Effect}
use Rattle.rv_rows.specs.declared.effect.Effect.TheVariants.{Put, Jump, Branch, Nothing, Load, Store, LoadReserved, StoreConditional, Amo, Csr, Trap, Ecall, Sret, Wfi}
use Rattle.rv_rows.specs.declared.instr.Instr.{Instr}
use Rattle.rv_rows.specs.Loads.{width_bytes}
use Rattle.rv_rows.specs.Table.{instr_of}
use Rattle.rv_supervisor.specs.declared.regs.Regs.{Regs}
use Rattle.rv_supervisor.specs.declared.regs.Turn.{Turn}
use Rattle.rv_supervisor.specs.declared.csr.Csr.TheVariants as csr
use Rattle.rv_supervisor.specs.declared.csr.Csr as csr_type
use Rattle.rv_supervisor.specs.Registers.{with_reg, holds, a0, a1}
use Rattle.rv_supervisor.specs.Start.{start_regs, zero_regs}
use Rattle.rv_supervisor.specs.Csrs.{csr_of, is_read}
use Rattle.rv_doing.specs.Doing.{Doing, Ends, asked, ended}
use Rattle.rv_doing.specs.Does.{does, does_by, performed, csr_access, effect_at}
use Rattle.rv_doing.specs.Sbi.{call_by}
use Rattle.sbi_calls.specs.declared.step.SbiStep.{SbiStep}
use Rattle.sbi_calls.specs.declared.step.SbiStep.TheVariants.{Now, Act}
use Rattle.sbi_calls.specs.Calls.{sbi}
use Rattle.hart_trace.specs.declared.looks.Interrupt.{Interrupt}
use Rattle.hart_trace.specs.declared.looks.Interrupt.TheVariants.{Software, Timer, External}
use Rattle.hart_trace.specs.Stopped.{stopped_regs}
use Rattle.hart_trace.specs.Looks.{looked_at, after_pending, after_interrupt, first_interrupt, interrupt_number}
use Rattle.hart_trace.specs.Traces.{opening, looked, is_full, executes, fetch_fault}
use Rattle.hart_trace.specs.Kept.{IsBegun, IsKept, IsRegs, IsReply, IsSmallOp, IsSmallShown, IsWord}
use Rattle.hart_trace.specs.States.{Hart, op_or_idle, wants_by, fresh, hart_wants, begins_by, hart_fetched, turned_by, stepped_by, hart_stepped, hart_next}
use Rattle.hart_trace.proofs.Naturals.{hart_aligned}
use Rattle.hart_trace.proofs.Registers.{puts, at_pc, trapped, turned, enabled, traps}
use Rattle.hart_trace.proofs.Effects.{IsSmallStep, executes_ends, sbi_small}

module _ (size : ℕ) where
  -- ---- looks

  number_small : (interrupt : Interrupt) → IsWord (2 ^ 63 + interrupt_number interrupt)
  number_small Software = omega arith
  number_small Timer = omega arith
  number_small External = omega arith

  regs_by : (b : Bool) (x y : Regs) → IsRegs size x → IsRegs size y → IsRegs size (if b then x else y)
  regs_by true x y first second = first
  regs_by false x y first second = second

  pending : (turn : Turn) (first : Option Interrupt) (r : Regs) → IsRegs size r → IsRegs size (after_pending turn first r)
  pending Turn.WakeLook None r is = turned size r is Turn.WakeIdle
  pending turn None r is = turned size r is Turn.Fetch
  pending turn (Some interrupt) r is =
      regs_by r.status_sie (after_interrupt interrupt r) (record r { turn = Turn.Fetch })
      (trapped size r is (2 ^ 63 + interrupt_number interrupt) 0 false r.status_sie Turn.Fetch (number_small interrupt) (omega arith))
      (turned size r is Turn.Fetch)

  shows : (shown : Shown) (r : Regs) → IsSmallShown shown → IsRegs size r → IsRegs size (looked_at shown r)
  shows (Pending bits) r small is = pending r.turn (first_interrupt (bit_and bits r.sie)) r is
  shows Stopped r small is = turned size r is Turn.Idle
  shows (Start pc number word) r small is =
      let put = puts size (with_reg r a0 number) (puts size r is a0 number small.1) a1 word small.2 in
      let pc_small : IsWord pc = small.0 in
      at_pc size _ (enabled size _ put false (with_reg (with_reg r a0 number) a1 word).status_spie Turn.Fetch) (pc / 4 * 4)
      (omega (arith, pc_small))

  looks : (reply : Reply) (r : Regs) → IsReply size (Op.Board board.Look) reply → IsRegs size r → IsRegs size (looked reply r)
  looks (Reply.Shown shown) r small is = shows shown r small is
  looks reply r small is = is

  -- ---- the hart

  -- its registers, and what it has begun
  abbrev IsHart : Hart → Type 0
  IsHart h = IsRegs size h.regs × IsBegun h.begun h.regs

  piece_small : (piece : List ℕ) → length piece ≡ 4 → All IsByte piece → little_endian piece < 2 ^ 32
  piece_small piece long bytes =
      let below = value_below piece bytes in
      let most : 256 ^ length piece ≡ 2 ^ 32 = ap (λ (n : ℕ). 256 ^ n) long in
      omega (arith, below, most)

  begins : (o : Option Op) (word : ℕ) (r : Regs) (reply : Reply) → size % 8 ≡ 0 → word < 2 ^ 32 → r.turn ≡ Turn.Fetch
      → asked (executes word r) ≡ o → IsReply size op.Idle reply → IsRegs size r → IsHart (begins_by o word r reply)
  begins (Some it) word r reply whole short fetches asks to is = (is, (short, fetches, ap (λ (o : Option Op). is_some o) asks))
  begins None word r reply whole short fetches asks to is =
      let small : IsWord word = omega (arith, short) in (
        executes_ends size word r reply whole small
            (subst (λ (o : Option Op). IsReply size (op_or_idle o) reply) (sym asks) to) is,
        tt,
      )

  fetches : (reply : Reply) (r : Regs) → size % 8 ≡ 0 → fits (op.Read r.pc 4) reply ≡ true → r.turn ≡ Turn.Fetch
      → IsReply size (op.Read r.pc 4) reply → IsRegs size r → IsHart (hart_fetched r reply)
  fetches (Reply.Bytes piece) r whole fit turn to is =
      begins (asked (executes (little_endian piece) r)) (little_endian piece) r (Reply.Bytes piece) whole
      (piece_small piece (eqb-true (length piece) 4 fit) to) turn refl to is
  fetches reply r whole fit turn to is = (traps size InstructionFault r.pc r is.pc is, tt)

  turns : (turn : Turn) (r : Regs) (reply : Reply) → size % 8 ≡ 0 → r.turn ≡ turn → fits (opening turn r) reply ≡ true
      → IsReply size (opening turn r) reply → IsRegs size r → IsHart (turned_by turn r reply)
  turns Turn.Fetch r reply whole here fit to is = fetches reply r whole fit here to is
  turns Turn.Look r reply whole here fit to is = (looks reply r to is, tt)
  turns Turn.WakeLook r reply whole here fit to is = (looks reply r to is, tt)
  turns Turn.Idle r reply whole here fit to is = (turned size r is Turn.Look, tt)
  turns Turn.WakeIdle r reply whole here fit to is = (turned size r is Turn.WakeLook, tt)

  hart_by : (b : Bool) (x y : Hart) → (b ≡ true → IsHart x) → IsHart y → IsHart (if b then x else y)
  hart_by true x y first second = first refl
  hart_by false x y first second = second

  steps_by : (begun : Option ℕ) (r : Regs) (reply : Reply) → size % 8 ≡ 0 → fits (wants_by begun r) reply ≡ true
      → IsReply size (wants_by begun r) reply → IsBegun begun r → IsRegs size r → IsHart (stepped_by begun r reply)
  steps_by None r reply whole fit to begun is = turns r.turn r reply whole refl fit to is
  steps_by (Some word) r reply whole fit to begun is =
      let short : IsWord word = omega (arith, begun.0) in
      hart_by (is_full reply) (record { regs = r; begun = Some word }) (fresh (ended (executes word r) reply))
      (λ full. (is, begun)) (executes_ends size word r reply whole short to is, tt)

  pub hart_kept : (h : Hart) (reply : Reply) → size % 8 ≡ 0 → IsReply size (hart_wants h) reply → IsKept size h
      → IsKept size (hart_next h reply)
  hart_kept h reply whole to kept =
      let is =
      hart_by (fits (hart_wants h) reply) (hart_stepped h reply) h
      (λ fit. steps_by h.begun h.regs reply whole fit to kept.begun kept.regs) (kept.regs, kept.begun) in
      record { regs = is.0; aligned = hart_aligned h reply kept.aligned; begun = is.1 }

  -- ---- what it asks for

  abbrev IsSmallDoing : Doing → Type 0
  IsSmallDoing d = IsSmallOp (op_or_idle (asked d))

  doing_by : (b : Bool) (x y : Doing) → IsSmallDoing x → IsSmallDoing y → IsSmallDoing (if b then x else y)
  doing_by true x y first second = first
  doing_by false x y first second = second

  access_asks : (it : Option csr_type.Csr) (rd : Register) (by : CsrAccess) (word : ℕ) (r : Regs)
      → IsSmallDoing (csr_access it rd by word r)
  access_asks None rd by word r = tt
  access_asks (Some (csr.Hart it)) rd by word r = tt
  access_asks (Some csr.Sip) rd by word r = tt
  access_asks (Some csr.Time) rd by word r = doing_by (is_read by) _ _ tt tt

  call_asks : (step : SbiStep) (r : Regs) → IsSmallStep step → IsSmallDoing (call_by step r)
  call_asks (Now given) r small = tt
  call_asks (Act act) r small = small

  effect_asks : (effect : Effect) (word : ℕ) (r : Regs) → IsRegs size r → IsSmallDoing (performed effect word r)
  effect_asks (Put rd value) word r is = tt
  effect_asks (Jump rd link target) word r is = tt
  effect_asks (Branch target) word r is = tt
  effect_asks Nothing word r is = tt
  effect_asks (Load kind rd address) word r is = tt
  effect_asks (Store width address value) word r is = all_bytes (width_bytes width) value
  effect_asks (LoadReserved wide rd address) word r is = tt
  effect_asks (StoreConditional wide rd address value) word r is = doing_by (holds r address) _ _ tt tt
  effect_asks (Amo kind wide rd address value) word r is = tt
  effect_asks (Csr rd number access) word r is = access_asks (csr_of number) rd access word r
  effect_asks (Trap exception value) word r is = tt
  effect_asks Ecall word r is = call_asks (sbi r) r (sbi_small size r is)
  effect_asks Sret word r is = tt
  effect_asks Wfi word r is = tt

  instr_asks : (it : Option Instr) (word : ℕ) (r : Regs) → IsRegs size r → IsSmallDoing (does_by it word r)
  instr_asks None word r is = tt
  instr_asks (Some it) word r is = effect_asks (effect_at it r) word r is

  does_asks : (word : ℕ) (r : Regs) → IsRegs size r → IsSmallDoing (does word r)
  unfolding does
  does_asks word r is = instr_asks (instr_of word) word r is

  opens : (turn : Turn) (r : Regs) → IsSmallOp (opening turn r)
  opens Turn.Fetch r = tt
  opens Turn.Look r = tt
  opens Turn.WakeLook r = tt
  opens Turn.Idle r = tt
  opens Turn.WakeIdle r = tt

  wants_small : (begun : Option ℕ) (r : Regs) → IsRegs size r → IsSmallOp (wants_by begun r)
  wants_small None r is = opens r.turn r
  wants_small (Some word) r is = doing_by (nat_lt r.pc ram_start) (Ends (fetch_fault r)) (does word r) tt (does_asks word r is)

  pub hart_small : (h : Hart) → IsKept size h → IsSmallOp (hart_wants h)
  hart_small h kept = wants_small h.begun h.regs kept.regs

  -- ---- and as it begins

  zeros : IsRegs size (zero_regs 0)
  zeros = record {
    many = refl;
    x = All-replicate IsWord 31 0 (omega arith);
    pc = omega arith;
    sie = refl;
    stvec = omega arith;
    sscratch = omega arith;
    sepc = omega arith;
    scause = omega arith;
    stval = omega arith;
    some = omega arith;
    few = omega arith;
    held = tt;
  }

  pub stopped_kept : IsKept size (fresh stopped_regs)
  stopped_kept = record { regs = turned size (zero_regs 0) zeros Turn.Look; aligned = (refl, refl, refl); begun = tt }

  pub start_kept : (pc first second : ℕ) → IsWord pc → pc % 4 ≡ 0 → IsWord first → IsWord second
      → IsKept size (fresh (start_regs pc first second))
  start_kept pc first second small aligned one two = record {
    regs =
        puts size (with_reg (zero_regs pc) a0 first) (puts size (zero_regs pc) (at_pc size (zero_regs 0) zeros pc small) a0 first one) a1
        second two;
    aligned = (aligned, refl, refl);
    begun = tt;
  }
