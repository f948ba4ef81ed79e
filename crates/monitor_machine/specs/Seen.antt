-- What contracts see of the fields of a live machine.
use Rattle.monitor_machine.specs.declared.machine.LiveMachine.TheInside.{Inside}
use Rattle.monitor_machine.specs.Live.{Live}

abbrev pub live_of : Inside → Live
live_of m = record {
  id = m.id;
  ids = m.ids;
  config = m.config;
  metadata = m.metadata;
  guest = m.guest;
  paused = m.paused;
}
