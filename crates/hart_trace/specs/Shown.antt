-- A hart's registers by number.
use Rattle.std.specs.Prelude.{ℕ, ◌==◌, if◌then◌else◌}
use Rattle.rv_rows.specs.Registers as registers
use Rattle.rv_supervisor.specs.Registers.{reg}
use Rattle.hart_trace.specs.States.{Hart}

-- x0 to x31 by their numbers, and pc as number 32
abbrev pub register_of : Hart → ℕ → ℕ
register_of h n = if n == 32 then h.regs.pc else reg h.regs (registers.register_of n)
