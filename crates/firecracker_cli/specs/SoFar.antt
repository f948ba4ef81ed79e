-- Serving before its last line, and its beginning.
use Rattle.std.specs.Prelude.{ℕ, ◌≡◌, ◌⊎◌, true, List, [], ◌∷◌, ◌++◌, Some}
use Rattle.vm_types.specs.Causes.{Rose}
use Rattle.vm_types.specs.declared.exit.Exit.{Exit}
use Rattle.vm_types.specs.declared.exit.Object.{Object}
use Rattle.vm_types.specs.declared.exit.Object.TheVariants as object
use Rattle.monitor_running.specs.Asked.{HostKnown, healths}
use Rattle.vm_outside.specs.Known.{FilesKnown, Health, Tells}
use Rattle.serve_host.specs.Drawing.{WordsKnown}
use Rattle.vm_host.specs.Giving.{IsDrawn}
use Rattle.serve_host.specs.Listening.{Ended}
use Rattle.serve_host.specs.Tracing.{TraceKnown}
use Rattle.script_text.specs.declared.item.Item.{Item}
use Rattle.script_text.specs.declared.item.Item.TheVariants as item
use Rattle.command_line.specs.Commands.{ServeWords}
use Rattle.flat_machine.specs.Machine.{AreFilesOf, Machine, is_off, new_machine}
use Rattle.flat_machine.specs.Run.{Act}
use Rattle.flat_trace.specs.Showing.{Out, said, shown}
use Rattle.monitor_core.specs.declared.monitor.Monitor.{Monitor}
use Rattle.monitor_core.specs.State.{IsMonitor}
use Rattle.monitor_running.specs.Reached.{Start, known, seen}
use Rattle.monitor_serving.specs.Connections.{AreToldInPart, HaveCome}
use Rattle.monitor_serving.specs.Views.{Stands, hosts}
use Rattle.monitor_serving.specs.declared.served.Served.{Served}
use Rattle.monitor_serving.specs.declared.served.Served.TheVariants as served
use Rattle.firecracker_cli.specs.Serving.{AllTold, AskedSince, HasBegun, HasNotBegun, IsKept, ServeKnown, ServedAll, ServedPart, TraceRan, serve_known, took_before, traced_at}

-- the machine has this lineage
abbrev pub with_lineage : ℕ → Machine → Machine
with_lineage lineage m = record m { ids = record m.ids { lineage = lineage } }

-- where everything is once the lineage is drawn: the trace has its item, and a machine of this id that has not started, and so has no
-- device, has it
abbrev pub start_at : ServeWords → ServeKnown → ℕ → Start
start_at it before lineage = record {
  seen = record (seen before.hosts.slices) {
    took = took_before it.trace before.hosts.slices.trace.took ++ item.Lineage lineage ∷ [];
  };
  attached = true;
  flat = with_lineage lineage (new_machine it.id before.hosts.files.saved before.hosts.files.calls);
  talk = [];
}

-- connections are taken and the trace is kept where the words say
pub record AtPaths (it : ServeWords) (before now : ServeKnown) : Type 0 where
  pub listening : now.listener.path ≡ Some it.socket
  pub traced : now.hosts.slices.trace.path ≡ traced_at it.trace before.hosts.slices.trace.path

-- Serving came to its end, behind the lineage. What the console holds is not drained yet.
pub record CameToEnd (monitor : Monitor) (it : ServeWords) (before now : ServeKnown) : Type 0 where
  pub paths : AtPaths it before now
  pub lineage : ℕ
  pub drawn : Tells before.words.health → IsDrawn before.words.left lineage now.words.left
  pub last : Machine
  pub talk : List Out
  pub since : List Ended
  pub stands : Stands (start_at it before lineage) monitor now.hosts last talk
  pub over : (now.listener.coming ≡ []) ⊎ (is_off last ≡ true)
  pub came : HaveCome before.listener since now.listener
  pub told : AllTold last talk since

-- serving broke off, not by the sink, and its last line is not yet written
pub record Cut (exit : Exit) (it : ServeWords) (before now : ServeKnown) : Type 0 where
  pub acts : List Act
  pub outs : List Out
  pub at : Machine
  pub host : HostKnown
  pub since : List Ended
  pub ran : TraceRan it.id before host acts outs at
  pub behind : AskedSince exit (healths before.hosts.slices.host.devices) at host now.hosts.slices.host
  pub begun : HasNotBegun it before now acts ⊎ HasBegun it before now acts
  pub came : HaveCome before.listener since now.listener
  pub sink : now.hosts.slices.sink.taken ≡ before.hosts.slices.sink.taken ++ shown outs
  pub told : AreToldInPart (said outs) since
  pub files : AreFilesOf now.hosts.files at

-- a sink that failed is told nothing more
abbrev pub ServedSoFar : Exit → ServeWords → ServeKnown → ServeKnown → Type 0
ServedSoFar Exit.Done it before now = ServedAll it before now
ServedSoFar Exit.Usage it before now = ⊥
ServedSoFar (Exit.Script line) it before now = ⊥
ServedSoFar (Exit.Fault object.Source) it before now = ⊥
ServedSoFar (Exit.Fault object.Files) it before now = ⊥
ServedSoFar (Exit.Fault object.Sink) it before now = ServedPart (Exit.Fault object.Sink) it before now
ServedSoFar exit it before now = Cut exit it before now

-- a trace that took nothing more was finished, unless a call on it failed
pub record IsFinished (before now : ServeKnown) (trace : TraceKnown) : Type 0 where
  pub path : trace.path ≡ now.hosts.slices.trace.path
  pub took : trace.took ≡ now.hosts.slices.trace.took
  pub kept : IsKept before.hosts.slices.trace trace

abbrev pub with_trace : TraceKnown → ServeKnown → ServeKnown
with_trace trace now =
    serve_known (hosts (known trace now.hosts.slices.sink now.hosts.slices.host) now.hosts.files) now.words now.listener

-- the same before what is told last, where serving came to its end, and before the trace is finished, where it broke off
abbrev pub LeftBy : Exit → Monitor → ServeWords → ServeKnown → ServeKnown → Type 0
LeftBy Exit.Done monitor it before now = CameToEnd monitor it before now
LeftBy exit monitor it before now =
    (trace : TraceKnown) → IsFinished before now trace → ServedSoFar exit it before (with_trace trace now)

-- A lineage was drawn, and then is in the trace, and then the machine's. Where the words tell, it is the first of them.
pub record TakesLineage (left : WordsKnown) (old : List Item) (before : Monitor) (rest : WordsKnown) (new : List Item)
    (after : Monitor) : Type 0 where
  pub lineage : ℕ
  pub drawn : Tells left.health → IsDrawn left.left lineage rest.left
  pub told : new ≡ old ++ item.Lineage lineage ∷ []
  pub is : (files : FilesKnown) (m : Machine) → IsMonitor before files m → IsMonitor after files (with_lineage lineage m)

-- the count rose of the trace, the words, or the listener, as it is named
abbrev pub BeginCause : Object → Health → Health → Health → Health → Health → Health → Type 0
BeginCause object.Trace trace traced words worded listener listened = Rose trace.faults traced.faults
BeginCause object.Words trace traced words worded listener listened = Rose words.faults worded.faults
BeginCause object.Listener trace traced words worded listener listened = Rose listener.faults listened.faults
BeginCause other trace traced words worded listener listened = ⊥

-- how the command ends where serving ended so, but for a trace or a sink that fails at its end
abbrev pub exit_of : Served → Exit
exit_of served.Ended = Exit.Done
exit_of served.Off = Exit.Done
exit_of (served.Fault object) = Exit.Fault object
exit_of served.OutOfMemory = Exit.OutOfMemory
