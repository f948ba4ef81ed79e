-- The replay of a trace in which the guest turned itself off.
use Rattle.std.specs.Prelude.{ℕ, ◌≡◌, true, List, ◌++◌}
use Rattle.vm_types.specs.declared.exit.Exit.{Exit}
use Rattle.flat_machine.specs.Machine.{Machine, is_off}
use Rattle.flat_machine.specs.Replay.{IsReplay}
use Rattle.flat_machine.specs.Run.{Act}

-- From the machine at the start the script's replay is done and writes this text, and the guest is off then: its lines up to
-- there are the first of these acts, and the rest are those behind them.
pub record ReplaysToOff (script : List ℕ) (start : Machine) (acts : List Act) (text : List ℕ) : Type 0 where
  pub front : List Act
  pub rest : List Act
  pub end : Machine
  pub parts : acts ≡ front ++ rest
  pub replay : IsReplay script start front Exit.Done text end
  pub off : is_off end ≡ true
