-- Where everything is while connections are served.
use Rattle.std.specs.Prelude.{ℕ, ◌≡◌, Bool, true, false, List, [], ◌∷◌, ◌++◌}
use Rattle.std.specs.List.{list_any}
use Rattle.vm_host.specs.Telling.{ClockKnown}
use Rattle.vm_outside.specs.Known.{FilesKnown, Lasts, SinkKnown, Tells}
use Rattle.serve_host.specs.Passing.{ConnKnown}
use Rattle.serve_host.specs.Tracing.{TraceStays}
use Rattle.flat_machine.specs.Machine.{Machine}
use Rattle.flat_trace.specs.Showing.{Out, given, replied}
use Rattle.flat_trace.specs.Showing.Out.{Heard}
use Rattle.monitor_core.specs.declared.monitor.Monitor.{Monitor}
use Rattle.monitor_core.specs.State.{IsMonitor}
use Rattle.monitor_machine.specs.Kinds.{DevicesKnown}
use Rattle.monitor_running.specs.Asked.{HostKnown}
use Rattle.monitor_running.specs.Objects.{TurnKnown, known_with}
use Rattle.monitor_running.specs.Reached.{AreOwn, Known, Reached, Seen, Start, seen}

-- what is known of the host objects: those of slices, and the files
pub record Hosts : Type 0 where
  pub slices : Known
  pub files : FilesKnown

abbrev pub hosts : Known → FilesKnown → Hosts
hosts slices files = record { slices = slices; files = files }

-- of these objects, by what each of their types tells
abbrev pub hosts_of : {W K F : Type 0} → (W → TurnKnown) → (K → SinkKnown) → (F → FilesKnown) → W → K → F → Hosts
hosts_of of_turns of_sink of_files with sink files = hosts (known_with (of_turns with) (of_sink sink)) (of_files files)

-- of a clock and of objects of devices
abbrev pub host_with : ClockKnown → DevicesKnown → HostKnown
host_with clock devices = record { clock = clock; devices = devices }

-- the trace, the sink and the files tell their content
pub record AllTell (hosts : Hosts) : Type 0 where
  pub trace : Tells hosts.slices.trace.health
  pub sink : Tells hosts.slices.sink.health
  pub files : Tells hosts.files.health

-- and last: what told its content still does, no count has fallen, and the trace is that of the same path
pub record AllLast (before now : Hosts) : Type 0 where
  pub trace : Lasts before.slices.trace.health now.slices.trace.health
  pub trace_stays : TraceStays before.slices.trace now.slices.trace
  pub sink : Lasts before.slices.sink.health now.slices.sink.health
  pub files : Lasts before.files.health now.files.health

-- the monitor, what is known of the host objects, and of the connection that is served
pub record View : Type 0 where
  pub monitor : Monitor
  pub hosts : Hosts
  pub conn : ConnKnown

abbrev pub view : Monitor → Hosts → ConnKnown → View
view monitor hosts conn = record { monitor = monitor; hosts = hosts; conn = conn }

abbrev pub view_of : {W K F N : Type 0} → (W → TurnKnown) → (K → SinkKnown) → (F → FilesKnown) → (N → ConnKnown)
    → Monitor → W → K → F → N → View
view_of of_turns of_sink of_files of_conn monitor with sink files conn =
    view monitor (hosts_of of_turns of_sink of_files with sink files) (of_conn conn)

-- the monitor is the machine after all that happened since the start, which the trace has, and its devices' objects are those that are
-- configured
pub record Stands (s : Start) (monitor : Monitor) (hosts : Hosts) (m : Machine) (talk : List Out) : Type 0 where
  pub is : IsMonitor monitor hosts.files m
  pub own : AreOwn s m (seen hosts.slices)
  pub reached : Reached s (seen hosts.slices) m talk

-- what was seen, were these bytes taken too, with what is known of a clock and objects of devices
abbrev pub seen_with : Known → List ℕ → HostKnown → Seen
seen_with slices unshown host = record (seen slices) { taken = slices.sink.taken ++ unshown; host = host }

-- all of it was heard of the connection that is open
abbrev pub AreHeard : List Out → Type 0
AreHeard [] = Unit {0}
AreHeard (Heard bytes responses ∷ outs) = AreHeard outs
AreHeard (out ∷ outs) = ⊥

-- an answer that ends the connection is given to these bytes
abbrev pub closes : Out → Bool
closes (Heard bytes responses) = list_any (λ response. response.closes) responses
closes out = false

-- one is among what was said
abbrev pub HasClosed : List Out → Type 0
HasClosed outs = list_any closes outs ≡ true

-- This was heard of a connection. It gave the bytes, and behind them the unsaid ones; it took the replies, but for the
-- unsent ones at their end. What it has left is what it had left, without what it gave.
pub record Talked (old new : ConnKnown) (heard : List Out) (unsent unsaid : List ℕ) : Type 0 where
  pub only : AreHeard heard
  pub gave : new.gave ≡ old.gave ++ (given heard ++ unsaid)
  pub took : new.took ++ unsent ≡ old.took ++ replied heard
  pub brought : new.gave ++ new.left ≡ old.gave ++ old.left
