-- What an instruction ends in, with what its access is replied: registers of their width again.
use Rattle.std.proofs.Common.{◌≡◌, ◌≤◌, ℕ, ◌+◌, ◌-◌, ◌*◌, ◌/◌, ◌%◌, ◌==◌, ◌&&◌, Bool, true, false, if◌then◌else◌}
use Rattle.std.proofs.Common.{nat_le, nat_lt, Option, Some, None, arith, bit_and}
use Rattle.std.proofs.lemmas.Bool.{and_parts, leb-true, le-leb}
use Rattle.std.proofs.lemmas.Nat.{and_le_r}
use Rattle.vm_types.specs.declared.op.Op.{Op}
use Rattle.vm_types.specs.declared.op.Op.TheVariants as op
use Rattle.vm_types.specs.declared.op.BoardOp.{BoardOp}
use Rattle.vm_types.specs.declared.op.BoardOp.TheVariants as board
use Rattle.vm_types.specs.declared.reply.Reply.{Reply}
use Rattle.le_fields.specs.Fields.{little_endian}
use Rattle.guest_memory.specs.Ram.{is_ram, ram_start}
use Rattle.guest_memory.specs.Words.{width_of}
use Rattle.rv_rows.specs.declared.register.Register.{Register}
use Rattle.rv_rows.specs.Registers.{number}
use Rattle.rv_rows.specs.declared.memory.LoadKind.{LoadKind}
use Rattle.rv_rows.specs.declared.csr.CsrAccess.{CsrAccess}
use Rattle.rv_rows.specs.declared.csr.CsrAccess.TheVariants as access
use Rattle.rv_rows.specs.declared.csr.CsrOp.{CsrOp}
use Rattle.rv_rows.specs.declared.exception.Exception.{Exception}
use Rattle.rv_rows.specs.declared.exception.Exception.TheVariants.{InstructionMisaligned, InstructionFault, IllegalInstruction, LoadMisaligned, LoadFault, StoreMisaligned, StoreFault}
use Rattle.rv_rows.specs.declared.effect.Effect.{Effect}
use Rattle.rv_rows.specs.declared.effect.Effect.TheVariants.{Put, Jump, Branch, Nothing, Load, Store, LoadReserved, StoreConditional, Amo, Csr, Trap, Ecall, Sret, Wfi}
use Rattle.rv_rows.specs.declared.instr.Instr.{Instr}
use Rattle.rv_rows.specs.declared.instr.Instr.TheVariants as instr
use Rattle.rv_rows.specs.Loads.{load_bytes, width_bytes, atomic_bytes, load_value, atomic_load_value}
use Rattle.rv_rows.specs.Branches.{is_taken}
use Rattle.rv_rows.specs.Effects.{effect_of, address_sum, csr_access as access_by}
use Rattle.rv_rows.specs.Table.{instr_of}
use Rattle.rv_rows.specs.Sources.{rs1_of, rs2_of}
use Rattle.rv_supervisor.specs.declared.regs.Regs.{Regs}
use Rattle.rv_supervisor.specs.declared.regs.Turn.{Turn}
use Rattle.rv_supervisor.specs.declared.csr.Csr.TheVariants as csr
use Rattle.rv_supervisor.specs.declared.csr.Csr as csr_type
use Rattle.rv_supervisor.specs.Registers.{reg, with_reg, holds, granule, without_granule, a0, a1}
use Rattle.rv_supervisor.specs.Ends.{after_instruction}
use Rattle.rv_supervisor.specs.Csrs.{csr_of, csr_value, after_access, is_read, interrupts}
use Rattle.rv_doing.specs.Doing.{Doing, Ends, Asks, asked, ended}
use Rattle.rv_doing.specs.Does.{does, does_by, performed, csr_access, effect_at, illegal}
use Rattle.rv_doing.specs.Replies.{with_result, after_load, after_store, after_reserve, after_conditional, after_amo, after_time, after_sip}
use Rattle.rv_doing.specs.Sbi.{call_by}
use Rattle.sbi_calls.specs.declared.step.SbiReturn.{SbiReturn}
use Rattle.sbi_calls.specs.declared.step.SbiStep.{SbiStep}
use Rattle.sbi_calls.specs.declared.step.SbiStep.TheVariants.{Now, Act}
use Rattle.sbi_calls.specs.declared.table.SbiCall.{SbiCall}
use Rattle.sbi_calls.specs.declared.table.SbiCall.TheVariants as call
use Rattle.sbi_calls.specs.Calls.{a2, a6, a7, sbi, step_of, step_by, success, returns}
use Rattle.sbi_calls.specs.Ends.{after_call, after_answer, after_act, returned}
use Rattle.sbi_calls.specs.Table.{call_of, is_extension}
use Rattle.hart_trace.specs.Traces.{executes, fetch_fault}
use Rattle.hart_trace.specs.Kept.{IsHeld, IsRegs, IsReply, IsSmallAct, IsWord}
use Rattle.hart_trace.specs.States.{op_or_idle}
use Rattle.hart_trace.proofs.Immediates.{IsSmallBy, IsSmallInstr, instr_small}
use Rattle.hart_trace.proofs.Values.{alu_small, atomic_small, load_small, muldiv_small}
use Rattle.hart_trace.proofs.Registers.{IsSmallAccess, reg_small, counts, puts, at_pc, holding, turned, enabled, jumps, finishes, traps, results, csr_small, changes}

abbrev pub IsSmallReturn : Option SbiReturn → Type 0
IsSmallReturn None = Unit {0}
IsSmallReturn (Some given) = IsWord given.error × IsWord given.value

abbrev pub IsSmallStep : SbiStep → Type 0
IsSmallStep (Now given) = IsWord given.error × IsWord given.value
IsSmallStep (Act act) = IsSmallAct act

abbrev pub IsSmallEffect : Effect → Type 0
IsSmallEffect (Put rd value) = IsWord value
IsSmallEffect (Jump rd link target) = IsWord link × IsWord target
IsSmallEffect (Branch target) = IsWord target
IsSmallEffect (Load kind rd address) = IsWord address
IsSmallEffect (Store width address value) = IsWord address
IsSmallEffect (LoadReserved wide rd address) = IsWord address
IsSmallEffect (StoreConditional wide rd address value) = IsWord address
IsSmallEffect (Amo kind wide rd address value) = IsWord address
IsSmallEffect (Csr rd number access) = IsSmallAccess access
IsSmallEffect (Trap exception value) = IsWord value
IsSmallEffect effect = Unit {0}

module _ (size : ℕ) where
  -- ---- replies

  loads : (kind : LoadKind) (rd : Register) (address : ℕ) (reply : Reply) (r : Regs) → IsWord address → IsRegs size r
      → IsRegs size (after_load kind rd address reply r)
  loads kind rd address (Reply.Bytes piece) r small is =
      results size rd (load_value kind (little_endian piece)) r (load_small kind (little_endian piece)) is
  loads kind rd address reply r small is = traps size LoadFault address r small is

  stores : (address : ℕ) (reply : Reply) (r : Regs) → IsWord address → IsRegs size r → IsRegs size (after_store address reply r)
  stores address Reply.Done r small is = finishes size r is
  stores address reply r small is = traps size StoreFault address r small is

  pub wide_some : (wide : Bool) → 4 ≤ width_of wide
  wide_some true = omega arith
  wide_some false = omega arith

  pub held_by : (address len : ℕ) → size % 8 ≡ 0 → 1 ≤ len → is_ram size address len ≡ true → IsHeld size (Some (granule address))
  held_by address len whole some ram =
      let parts = and_parts (nat_le ram_start address) (nat_le (address - ram_start + len) size) ram in
      let above : ram_start ≤ address = leb-true ram_start address parts.0 in
      let within : address - ram_start + len ≤ size = leb-true (address - ram_start + len) size parts.1 in
      let low : ram_start ≤ granule address = omega (arith, above) in
      let high : granule address - ram_start + 8 ≤ size = omega (arith, above, within, whole, some) in (
        omega arith,
        both (nat_le ram_start (granule address)) (nat_le (granule address - ram_start + 8) size)
            (le-leb ram_start (granule address) low) (le-leb (granule address - ram_start + 8) size high),
      )
    where
      both : (a b : Bool) → a ≡ true → b ≡ true → (a && b) ≡ true
      both true b first second = second
      both false b first second = cc

  reserves : (wide : Bool) (rd : Register) (address : ℕ) (reply : Reply) (r : Regs) → size % 8 ≡ 0 → IsWord address
      → IsReply size (Op.Lr address wide) reply → IsRegs size r → IsRegs size (after_reserve wide rd address reply r)
  reserves wide rd address (Reply.Word old) r whole small ram is =
      results size rd (atomic_load_value wide old) (record r { held = Some (granule address) }) (atomic_small wide old)
      (holding size r is (Some (granule address)) (held_by address (width_of wide) whole (omega (arith, wide_some wide)) ram))
  reserves wide rd address reply r whole small ram is = traps size LoadFault address r small is

  lets_go : (r : Regs) → IsRegs size r → IsRegs size (without_granule r)
  lets_go r is = holding size r is None tt

  conditions : (rd : Register) (address value : ℕ) (wide : Bool) (reply : Reply) (r : Regs) → IsWord address
      → IsReply size (Op.Sc address value wide) reply → IsRegs size r → IsRegs size (after_conditional rd address reply r)
  conditions rd address value wide (Reply.Word failed) r small word is = results size rd failed (without_granule r) word (lets_go r is)
  conditions rd address value wide reply r small word is = traps size StoreFault address (without_granule r) small (lets_go r is)

  amos : (wide : Bool) (rd : Register) (address : ℕ) (reply : Reply) (r : Regs) → IsWord address → IsRegs size r
      → IsRegs size (after_amo wide rd address reply r)
  amos wide rd address (Reply.Word old) r small is = results size rd (atomic_load_value wide old) r (atomic_small wide old) is
  amos wide rd address reply r small is = traps size StoreFault address r small is

  times : (rd : Register) (reply : Reply) (r : Regs) → IsReply size (Op.Board board.Time) reply → IsRegs size r
      → IsRegs size (after_time rd reply r)
  times rd (Reply.Word value) r small is = results size rd value r small is
  times rd reply r small is = finishes size r is

  pends : (rd : Register) (reply : Reply) (r : Regs) → IsRegs size r → IsRegs size (after_sip rd reply r)
  pends rd (Reply.Word value) r is =
      let le = and_le_r value interrupts in
      results size rd (bit_and value interrupts) r (omega (arith, le)) is
  pends rd reply r is = finishes size r is

  returns_to : (given : SbiReturn) (r : Regs) → IsWord given.error → IsWord given.value → IsRegs size r
      → IsRegs size (after_call given r)
  returns_to given r error value is =
      finishes size (with_reg (with_reg r a0 given.error) a1 given.value)
      (puts size (with_reg r a0 given.error) (puts size r is a0 given.error error) a1 given.value value)

  answers : (given : Option SbiReturn) (r : Regs) → IsSmallReturn given → IsRegs size r → IsRegs size (after_answer given r)
  answers (Some given) r small is = returns_to given r small.0 small.1 is
  answers None r small is = finishes size r is

  acts : (act : BoardOp) (given : Option SbiReturn) (r : Regs) → IsSmallReturn given → IsRegs size r
      → IsRegs size (after_act act given r)
  acts (board.Putchar byte) given r small is = finishes size (with_reg r a0 0) (puts size r is a0 0 (omega arith))
  acts (board.SetTimer deadline) given r small is = returns_to (returns success 0) r (omega arith) (omega arith) is
  acts board.StopHart given r small is = turned size (after_instruction r) (finishes size r is) Turn.Look
  acts act given r small is = answers given r small is

  return_small : (act : BoardOp) (reply : Reply) → IsReply size (Op.Board act) reply → IsSmallReturn (returned reply)
  return_small act (Reply.Returned error value) small = small
  return_small act reply small = tt

  flag_small : (b : Bool) → IsWord (if b then 1 else 0)
  flag_small true = omega arith
  flag_small false = omega arith

  call_small : (it : SbiCall) (r : Regs) → IsRegs size r → IsSmallStep (step_of it r)
  call_small call.ConsolePutchar r is = tt
  call_small call.GetSpecVersion r is = (omega arith, omega arith)
  call_small call.GetImplementationId r is = (omega arith, omega arith)
  call_small call.GetImplementationVersion r is = (omega arith, omega arith)
  call_small call.ProbeExtension r is = (omega arith, flag_small (is_extension (reg r a0)))
  call_small call.GetVendorId r is = (omega arith, omega arith)
  call_small call.GetArchitectureId r is = (omega arith, omega arith)
  call_small call.GetMachineId r is = (omega arith, omega arith)
  call_small call.SetTimer r is = reg_small size r is a0
  call_small call.SendIpi r is = tt
  call_small call.RemoteFenceI r is = (omega arith, omega arith)
  call_small call.RemoteSfenceVma r is = (omega arith, omega arith)
  call_small call.RemoteSfenceVmaAsid r is = (omega arith, omega arith)
  call_small call.HartStart r is = (reg_small size r is a1, reg_small size r is a2)
  call_small call.HartStop r is = tt
  call_small call.HartGetStatus r is = tt
  call_small call.SystemReset r is = tt

  step_small : (it : Option SbiCall) (r : Regs) → IsRegs size r → IsSmallStep (step_by it r)
  step_small None r is = (omega arith, omega arith)
  step_small (Some it) r is = call_small it r is

  pub sbi_small : (r : Regs) → IsRegs size r → IsSmallStep (sbi r)
  sbi_small r is = step_small (call_of (reg r a7) (reg r a6)) r is

  abbrev pub IsReplyTo : Doing → Reply → Type 0
  IsReplyTo d reply = IsReply size (op_or_idle (asked d)) reply

  call_ends : (step : SbiStep) (r : Regs) (reply : Reply) → IsSmallStep step → IsReplyTo (call_by step r) reply
      → IsRegs size r → IsRegs size (ended (call_by step r) reply)
  call_ends (Now given) r reply small to is = returns_to given r small.0 small.1 is
  call_ends (Act act) r reply small to is = acts act (returned reply) r (return_small act reply to) is

  -- ---- effects

  effect_by : (b : Bool) (x y : Effect) → IsSmallEffect x → IsSmallEffect y → IsSmallEffect (if b then x else y)
  effect_by true x y first second = first
  effect_by false x y first second = second

  sum_small : (base offset : ℕ) → IsWord (address_sum base offset)
  sum_small base offset = omega arith

  access_small : (it : CsrOp) (source value : ℕ) → IsWord value → IsSmallAccess (access_by it source value)
  access_small CsrOp.Write source value small = small
  access_small CsrOp.Set source value small = set_by (source == 0) value small
    where
      set_by : (b : Bool) (value : ℕ) → IsWord value → IsSmallAccess (if b then access.Read else access.Set value)
      set_by true value small = tt
      set_by false value small = small
  access_small CsrOp.Clear source value small = clear_by (source == 0) value
    where
      clear_by : (b : Bool) (value : ℕ) → IsSmallAccess (if b then access.Read else access.Clear value)
      clear_by true value = tt
      clear_by false value = tt

  aligned_by : (len address : ℕ) (exception : Exception) (x : Effect) → IsWord address → IsSmallEffect x
      → IsSmallEffect (if address % len == 0 then x else Trap exception address)
  aligned_by len address exception x small first = effect_by (address % len == 0) x (Trap exception address) first small

  effect_small : (it : Instr) (pc a b : ℕ) → IsSmallInstr it → IsWord pc → IsWord a → IsWord b
      → IsSmallEffect (effect_of it pc a b)
  effect_small (instr.Lui rd value) pc a b it at first second = it
  effect_small (instr.Auipc rd offset) pc a b it at first second = sum_small pc offset
  effect_small (instr.Jal rd offset) pc a b it at first second =
      aligned_by 4 (address_sum pc offset) InstructionMisaligned _ (sum_small pc offset) (sum_small pc 4, sum_small pc offset)
  effect_small (instr.Jalr rd rs1 offset) pc a b it at first second =
      let small : IsWord (address_sum a offset / 2 * 2) = omega arith in
      aligned_by 4 (address_sum a offset / 2 * 2) InstructionMisaligned _ small (sum_small pc 4, small)
  effect_small (instr.Branch condition rs1 rs2 offset) pc a b it at first second =
      effect_by (is_taken condition a b) _ Nothing
      (aligned_by 4 (address_sum pc offset) InstructionMisaligned _ (sum_small pc offset) (sum_small pc offset)) tt
  effect_small (instr.Load kind rd rs1 offset) pc a b it at first second =
      aligned_by (load_bytes kind) (address_sum a offset) LoadMisaligned _ (sum_small a offset) (sum_small a offset)
  effect_small (instr.Store width rs1 rs2 offset) pc a b it at first second =
      aligned_by (width_bytes width) (address_sum a offset) StoreMisaligned _ (sum_small a offset) (sum_small a offset)
  effect_small (instr.AluImm op rd rs1 value) pc a b it at first second = alu_small op a value first it
  effect_small (instr.Alu op rd rs1 rs2) pc a b it at first second = alu_small op a b first second
  effect_small (instr.MulDiv op rd rs1 rs2) pc a b it at first second = muldiv_small op a b first second
  effect_small (instr.LoadReserved wide rd rs1) pc a b it at first second =
      aligned_by (atomic_bytes wide) a LoadMisaligned _ first first
  effect_small (instr.StoreConditional wide rd rs1 rs2) pc a b it at first second =
      aligned_by (atomic_bytes wide) a StoreMisaligned _ first first
  effect_small (instr.Amo kind wide rd rs1 rs2) pc a b it at first second =
      aligned_by (atomic_bytes wide) a StoreMisaligned _ first first
  effect_small instr.Fence pc a b it at first second = tt
  effect_small instr.FenceI pc a b it at first second = tt
  effect_small instr.Ecall pc a b it at first second = tt
  effect_small instr.Ebreak pc a b it at first second = at
  effect_small instr.Sret pc a b it at first second = tt
  effect_small instr.Wfi pc a b it at first second = tt
  effect_small instr.SfenceVma pc a b it at first second = tt
  effect_small (instr.Csr op rd csr rs1) pc a b it at first second = access_small op (number rs1) a first
  effect_small (instr.CsrImm op rd csr value) pc a b it at first second = access_small op value value it

  -- ---- how each ends

  ends_by : (b : Bool) (x y : Doing) (reply : Reply) → (IsReplyTo x reply → IsRegs size (ended x reply))
      → (IsReplyTo y reply → IsRegs size (ended y reply)) → IsReplyTo (if b then x else y) reply
      → IsRegs size (ended (if b then x else y) reply)
  ends_by true x y reply first second to = first to
  ends_by false x y reply first second to = second to

  csr_ends : (it : Option csr_type.Csr) (rd : Register) (by : CsrAccess) (word : ℕ) (r : Regs) (reply : Reply)
      → IsWord word → IsSmallAccess by → IsReplyTo (csr_access it rd by word r) reply → IsRegs size r
      → IsRegs size (ended (csr_access it rd by word r) reply)
  csr_ends None rd by word r reply short small to is = traps size IllegalInstruction word r short is
  csr_ends (Some (csr.Hart it)) rd by word r reply short small to is =
      results size rd (csr_value it r) (after_access it by r) (csr_small size it r is) (changes size it by r small is)
  csr_ends (Some csr.Sip) rd by word r reply short small to is = pends rd reply r is
  csr_ends (Some csr.Time) rd by word r reply short small to is =
      ends_by (is_read by) (Asks (op.Board board.Time) (λ given. after_time rd given r)) (illegal word r) reply
      (λ asks. times rd reply r asks is) (λ asks. traps size IllegalInstruction word r short is) to

  ends : (effect : Effect) (word : ℕ) (r : Regs) (reply : Reply) → size % 8 ≡ 0 → IsWord word → IsSmallEffect effect
      → IsReplyTo (performed effect word r) reply → IsRegs size r → IsRegs size (ended (performed effect word r) reply)
  ends (Put rd value) word r reply whole short small to is = results size rd value r small is
  ends (Jump rd link target) word r reply whole short small to is =
      jumps size target (with_reg r rd link) small.1 (puts size r is rd link small.0)
  ends (Branch target) word r reply whole short small to is = jumps size target r small is
  ends Nothing word r reply whole short small to is = finishes size r is
  ends (Load kind rd address) word r reply whole short small to is = loads kind rd address reply r small is
  ends (Store width address value) word r reply whole short small to is = stores address reply r small is
  ends (LoadReserved wide rd address) word r reply whole short small to is = reserves wide rd address reply r whole small to is
  ends (StoreConditional wide rd address value) word r reply whole short small to is =
      ends_by (holds r address) (Asks (op.Sc address value wide) (λ given. after_conditional rd address given r))
      (Ends (with_result rd 1 (without_granule r))) reply (λ asks. conditions rd address value wide reply r small asks is)
      (λ asks. results size rd 1 (without_granule r) (omega arith) (lets_go r is)) to
  ends (Amo kind wide rd address value) word r reply whole short small to is = amos wide rd address reply r small is
  ends (Csr rd number access) word r reply whole short small to is = csr_ends (csr_of number) rd access word r reply short small to is
  ends (Trap exception value) word r reply whole short small to is = traps size exception value r small is
  ends Ecall word r reply whole short small to is = call_ends (sbi r) r reply (sbi_small r is) to is
  ends Sret word r reply whole short small to is =
      turned size _ (counts size (record r { pc = r.sepc; status_sie = r.status_spie; status_spie = true })
      (at_pc size _ (enabled size r is r.status_spie true r.turn) r.sepc is.sepc)) Turn.Look
  ends Wfi word r reply whole short small to is = turned size (after_instruction r) (finishes size r is) Turn.WakeLook

  ends_instr : (it : Option Instr) (word : ℕ) (r : Regs) (reply : Reply) → size % 8 ≡ 0 → IsWord word → IsSmallBy it
      → IsReplyTo (does_by it word r) reply → IsRegs size r → IsRegs size (ended (does_by it word r) reply)
  ends_instr None word r reply whole short small to is = traps size IllegalInstruction word r short is
  ends_instr (Some it) word r reply whole short small to is =
      ends (effect_at it r) word r reply whole short
      (effect_small it r.pc (reg r (rs1_of it)) (reg r (rs2_of it)) small is.pc (reg_small size r is (rs1_of it)) (reg_small size r is (rs2_of it)))
      to is

  does_ends : (word : ℕ) (r : Regs) (reply : Reply) → size % 8 ≡ 0 → IsWord word → IsReplyTo (does word r) reply
      → IsRegs size r → IsRegs size (ended (does word r) reply)
  unfolding does
  does_ends word r reply whole short to is = ends_instr (instr_of word) word r reply whole short (instr_small word) to is

  pub executes_ends : (word : ℕ) (r : Regs) (reply : Reply) → size % 8 ≡ 0 → IsWord word → IsReplyTo (executes word r) reply
      → IsRegs size r → IsRegs size (ended (executes word r) reply)
  executes_ends word r reply whole short to is =
      ends_by (nat_lt r.pc ram_start) (Ends (fetch_fault r)) (does word r) reply
      (λ asks. traps size InstructionFault r.pc r is.pc is) (λ asks. does_ends word r reply whole short asks is) to
