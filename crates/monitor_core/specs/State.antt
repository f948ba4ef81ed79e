-- The flat machines that a monitor beside its files is.
use Rattle.std.specs.Prelude.{◌≡◌}
use Rattle.vm_outside.specs.Known.{FilesKnown}
use Rattle.flat_machine.specs.Machine.{AreFilesOf, Machine}
use Rattle.monitor_machine.specs.State.{IsLive, IsMachine}
use Rattle.monitor_core.specs.declared.monitor.Monitor.{Monitor}

-- its own data and its connection are the machine's, and its guest is where the steps lead
pub record IsOwn (monitor : Monitor) (m : Machine) : Type 0 where
  pub live : IsLive monitor.machine m
  pub connection_is : monitor.front ≡ m.connection

-- and what is known of the files is what the machine has of them
pub record IsMonitor (monitor : Monitor) (known : FilesKnown) (m : Machine) : Type 0 where
  pub own : IsOwn monitor m
  pub files : AreFilesOf known m

-- it is the machine but for the connection
abbrev pub IsBeside : Monitor → FilesKnown → Machine → Type 0
IsBeside monitor known m = IsMachine monitor.machine known m
