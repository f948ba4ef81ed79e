-- How the reply to an access ends its instruction. A reply that is no value of the access is a fault, whose address
-- goes into stval (privileged manual, supervisor part, "stval").
use Rattle.std.specs.Prelude.{ℕ, Bool, Some, bit_and}
use Rattle.vm_types.specs.declared.reply.Reply.{Reply}
use Rattle.vm_types.specs.declared.reply.Reply.TheVariants.{Done, Bytes, Word}
use Rattle.le_fields.specs.Fields.{little_endian}
use Rattle.rv_rows.specs.declared.register.Register.{Register}
use Rattle.rv_rows.specs.declared.memory.LoadKind.{LoadKind}
use Rattle.rv_rows.specs.declared.exception.Exception.TheVariants.{LoadFault, StoreFault}
use Rattle.rv_rows.specs.Loads.{load_value, atomic_load_value}
use Rattle.rv_supervisor.specs.declared.regs.Regs.{Regs}
use Rattle.rv_supervisor.specs.Registers.{with_reg, granule, without_granule}
use Rattle.rv_supervisor.specs.Ends.{after_instruction, after_trap}
use Rattle.rv_supervisor.specs.Csrs.{interrupts}

-- the instruction ends with a value for rd
abbrev pub with_result : Register → ℕ → Regs → Regs
with_result rd value r = after_instruction (with_reg r rd value)

abbrev pub after_load : LoadKind → Register → ℕ → Reply → Regs → Regs
after_load kind rd address (Bytes piece) r = with_result rd (load_value kind (little_endian piece)) r
after_load kind rd address reply r = after_trap LoadFault address r

abbrev pub after_store : ℕ → Reply → Regs → Regs
after_store address Done r = after_instruction r
after_store address reply r = after_trap StoreFault address r

-- from now on the hart holds the granule; where LR faults it holds what it held (unprivileged manual, 8.2)
abbrev pub after_reserve : Bool → Register → ℕ → Reply → Regs → Regs
after_reserve wide rd address (Word old) r =
    with_result rd (atomic_load_value wide old) (record r { held = Some (granule address) })
after_reserve wide rd address reply r = after_trap LoadFault address r

-- 0 where it was stored, else 1 (8.2); either way the granule is let go
abbrev pub after_conditional : Register → ℕ → Reply → Regs → Regs
after_conditional rd address (Word failed) r = with_result rd failed (without_granule r)
after_conditional rd address reply r = after_trap StoreFault address (without_granule r)

abbrev pub after_amo : Bool → Register → ℕ → Reply → Regs → Regs
after_amo wide rd address (Word old) r = with_result rd (atomic_load_value wide old) r
after_amo wide rd address reply r = after_trap StoreFault address r

-- time, and of sip the bits of a supervisor's interrupts; no other reply fits these
abbrev pub after_time : Register → Reply → Regs → Regs
after_time rd (Word value) r = with_result rd value r
after_time rd reply r = after_instruction r

abbrev pub after_sip : Register → Reply → Regs → Regs
after_sip rd (Word value) r = with_result rd (bit_and value interrupts) r
after_sip rd reply r = after_instruction r
