-- How an instruction ends: at the next one, at a target, in a trap, behind a trap, or in a wait.
use Rattle.std.specs.Prelude.{ℕ, ◌+◌, ◌-◌, ◌%◌, ◌^◌, true, false, nat_le, if◌then◌else◌}
use Rattle.rv_rows.specs.declared.exception.Exception.{Exception}
use Rattle.rv_rows.specs.Exceptions.{code}
use Rattle.rv_supervisor.specs.declared.regs.Regs.{Regs}
use Rattle.rv_supervisor.specs.declared.regs.Turn.TheVariants as Turn

-- a look is due
abbrev pub look_due : Regs → Regs
look_due r = record r { turn = Turn.Look }

-- one instruction more has finished or trapped: after every 32nd a look is due
abbrev pub count_down : Regs → Regs
count_down r =
    if nat_le r.count 1 then record r { count = 32; turn = Turn.Look } else record r { count = r.count - 1 }

-- the next instruction is at the target
abbrev pub after_jump : ℕ → Regs → Regs
after_jump target r = count_down (record r { pc = target })

-- or behind this one
abbrev pub after_instruction : Regs → Regs
after_instruction r = after_jump ((r.pc + 4) % 2 ^ 64) r

-- what a trap does to sstatus: SIE goes into SPIE, and no interrupt is taken until SIE is set again
abbrev pub with_interrupts_off : Regs → Regs
with_interrupts_off r = record r { status_spie = r.status_sie; status_sie = false }

-- an exception (privileged manual, supervisor part, sstatus, stvec, sepc, scause and stval); stvec is in direct mode
abbrev pub after_trap : Exception → ℕ → Regs → Regs
after_trap exception value r =
    count_down
    (with_interrupts_off (record r { pc = r.stvec; sepc = r.pc; scause = code exception; stval = value }))

-- SRET (privileged manual, supervisor part, sstatus), after which a look is due
abbrev pub after_sret : Regs → Regs
after_sret r =
    look_due (count_down (record r { pc = r.sepc; status_sie = r.status_spie; status_spie = true }))

-- WFI (privileged manual, "Wait for Interrupt"), after which a look shows whether the hart waits
abbrev pub after_wfi : Regs → Regs
after_wfi r = record (after_instruction r) { turn = Turn.WakeLook }
