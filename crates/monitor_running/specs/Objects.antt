-- What is known of what turns are given beside the sink.
use Rattle.vm_host.specs.Framing.{LinkKnown}
use Rattle.vm_host.specs.Giving.{GuestWordsKnown}
use Rattle.vm_host.specs.Hosting.{VsockKnown}
use Rattle.vm_host.specs.Storing.{DiskKnown}
use Rattle.vm_host.specs.Telling.{ClockKnown}
use Rattle.vm_outside.specs.Known.{SinkKnown}
use Rattle.serve_host.specs.Tracing.{TraceKnown}
use Rattle.monitor_machine.specs.Kinds.{DevicesKnown}
use Rattle.monitor_running.specs.Asked.{HostKnown}
use Rattle.monitor_running.specs.Reached.{Known, known}

-- the trace, and the clock and the objects that devices ask
pub record TurnKnown : Type 0 where
  pub trace : TraceKnown
  pub host : HostKnown

-- and the sink
abbrev pub known_with : TurnKnown → SinkKnown → Known
known_with given sink = known given.trace sink given.host

-- with another clock and other objects of devices, or one of both, or another trace
abbrev pub with_host : TurnKnown → HostKnown → TurnKnown
with_host given host = record given { host = host }

abbrev pub with_clock : TurnKnown → ClockKnown → TurnKnown
with_clock given clock = record given { host = record given.host { clock = clock } }

abbrev pub with_devices : TurnKnown → DevicesKnown → TurnKnown
with_devices given devices = record given { host = record given.host { devices = devices } }

abbrev pub with_trace : TurnKnown → TraceKnown → TurnKnown
with_trace given trace = record given { trace = trace }

-- with other disks, other links, another end of the vsock device, or other words
abbrev pub with_disk : TurnKnown → DiskKnown → TurnKnown
with_disk given disk = with_devices given (record given.host.devices { disk = disk })

abbrev pub with_link : TurnKnown → LinkKnown → TurnKnown
with_link given link = with_devices given (record given.host.devices { link = link })

abbrev pub with_vsock : TurnKnown → VsockKnown → TurnKnown
with_vsock given vsock = with_devices given (record given.host.devices { vsock = vsock })

abbrev pub with_guest_words : TurnKnown → GuestWordsKnown → TurnKnown
with_guest_words given words = with_devices given (record given.host.devices { words = words })
