-- A live machine that is ready: the invariant of each one.
use Rattle.flat_machine.specs.Machine.{Machine}
use Rattle.flat_machine.specs.Ready.{Ready}
use Rattle.monitor_machine.specs.Live.{Live}
use Rattle.monitor_machine.specs.State.{IsLive}

-- it is a ready machine, over some files
abbrev pub IsReadyLive : Live → Type 0
IsReadyLive live = (m : Machine) × IsLive live m × Ready m
