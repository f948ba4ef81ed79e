-- The machine of a monitor, lent.
use Rattle.std.specs.Borrow.{Lends, MutBor, Fml}
use Rattle.monitor_machine.specs.declared.machine.LiveMachine.{LiveMachine}
use Rattle.monitor_machine.specs.contracts.machine.LiveMachine as live
use Rattle.monitor_core.specs.declared.monitor.Monitor.{Monitor}
use Rattle.monitor_core.specs.contracts.monitor.Monitor.{the_row}

-- the monitor with this machine, on the connection that it has
abbrev pub with_machine : Monitor → LiveMachine → Monitor
with_machine monitor machine = record monitor { machine = machine }

-- the monitor ends with the last machine behind r
abbrev pub LendsMachine : MutBor Monitor → MutBor LiveMachine → Fml
LendsMachine monitor r = Lends the_row live.the_row monitor r (with_machine monitor.now)
