-- A hart's registers as it begins.
use Rattle.std.specs.Prelude.{ℕ, false, None, replicate}
use Rattle.rv_supervisor.specs.declared.regs.Regs.{Regs}
use Rattle.rv_supervisor.specs.declared.regs.Turn.TheVariants as Turn
use Rattle.rv_supervisor.specs.Registers.{with_reg, a0, a1}

-- every register is 0 but for pc, no granule is held, and it begins with a fetch
abbrev pub zero_regs : ℕ → Regs
zero_regs pc = record {
  x = replicate 31 0;
  pc = pc;
  sie = 0;
  stvec = 0;
  sscratch = 0;
  sepc = 0;
  scause = 0;
  stval = 0;
  count = 32;
  held = None;
  status_sie = false;
  status_spie = false;
  turn = Turn.Fetch;
}

-- with these arguments in a0 and a1
abbrev pub start_regs : ℕ → ℕ → ℕ → Regs
start_regs pc first second = with_reg (with_reg (zero_regs pc) a0 first) a1 second
