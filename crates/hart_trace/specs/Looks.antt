-- What a hart makes of what a look at the board shows: it takes an interrupt, goes on, waits or starts.
use Rattle.std.specs.Prelude.{ℕ, ◌+◌, ◌*◌, ◌/◌, ◌^◌, false, if◌then◌else◌, Option, Some, None, bit_and}
use Rattle.vm_types.specs.declared.reply.Shown.{Shown}
use Rattle.vm_types.specs.declared.reply.Shown.TheVariants.{Pending, Stopped, Start}
use Rattle.rv_supervisor.specs.declared.regs.Regs.{Regs}
use Rattle.rv_supervisor.specs.declared.regs.Turn.{Turn}
use Rattle.hart_trace.specs.declared.looks.Interrupt.{Interrupt}
use Rattle.hart_trace.specs.declared.looks.Interrupt.TheVariants.{Software, Timer, External}
use Rattle.rv_supervisor.specs.Registers.{with_reg, a0, a1}
use Rattle.rv_supervisor.specs.Csrs.{bit}
use Rattle.rv_supervisor.specs.Ends.{with_interrupts_off}

-- the number of an interrupt: its bit in sie and sip, and in scause (privileged manual, supervisor part,
-- "Supervisor Cause Register")
abbrev pub interrupt_number : Interrupt → ℕ
interrupt_number Software = 1
interrupt_number Timer = 5
interrupt_number External = 9

-- the one of these bits that is taken first: external, then software, then timer (privileged manual, supervisor part,
-- "Supervisor Interrupt Registers")
abbrev pub first_interrupt : ℕ → Option Interrupt
first_interrupt bits =
    if bit 9 bits then Some External else if bit 1 bits then Some Software else if bit 5 bits then Some Timer else None

-- An interrupt is taken: scause has its number and bit 63, stval is 0, and the next instruction is the handler's.
-- It is no instruction, and isn't counted.
abbrev pub after_interrupt : Interrupt → Regs → Regs
after_interrupt interrupt r =
    with_interrupts_off
    (record r {
      pc = r.stvec;
      sepc = r.pc;
      scause = 2 ^ 63 + interrupt_number interrupt;
      stval = 0;
      turn = Turn.Fetch;
    })

-- With the first that is pending and that sie enables. It is taken where SIE is set; a WFI goes on with it either way,
-- and waits where there is none (privileged manual, "Wait for Interrupt").
abbrev pub after_pending : Turn → Option Interrupt → Regs → Regs
after_pending Turn.WakeLook None r = record r { turn = Turn.WakeIdle }
after_pending turn None r = record r { turn = Turn.Fetch }
after_pending turn (Some interrupt) r =
    if r.status_sie then after_interrupt interrupt r else record r { turn = Turn.Fetch }

-- A stopped hart waits. One that is to start begins at the pc asked for, less its low two bits, with its number in a0,
-- the word in a1 and SIE 0, and keeps all else (SBI, "Hart State Management Extension").
abbrev pub looked_at : Shown → Regs → Regs
looked_at (Pending bits) r = after_pending r.turn (first_interrupt (bit_and bits r.sie)) r
looked_at Stopped r = record r { turn = Turn.Idle }
looked_at (Start pc number word) r =
    record (with_reg (with_reg r a0 number) a1 word) { pc = pc / 4 * 4; status_sie = false; turn = Turn.Fetch }
