-- A hart as it starts.
use Rattle.std.specs.Prelude.{ℕ}
use Rattle.rv_supervisor.specs.Start.{start_regs}
use Rattle.hart_trace.specs.States.{Hart, fresh}

abbrev pub start_of : ℕ → ℕ → ℕ → Hart
start_of pc a0 a1 = fresh (start_regs pc a0 a1)
