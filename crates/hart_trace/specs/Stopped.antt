-- A hart that is stopped as the machine starts.
use Rattle.rv_supervisor.specs.declared.regs.Regs.{Regs}
use Rattle.rv_supervisor.specs.declared.regs.Turn.TheVariants as Turn
use Rattle.rv_supervisor.specs.Start.{zero_regs}

-- every register and the pc are 0, and a look comes first
abbrev pub stopped_regs : Regs
stopped_regs = record (zero_regs 0) { turn = Turn.Look }
