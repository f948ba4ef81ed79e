-- What the command `serve` owes: what the trace took is a run of the flat machine from its start, which shows what the
-- connections and the sink took.
use Rattle.std.specs.Prelude.{ℕ, ◌≡◌, ◌≢◌, ◌⊎◌, ◌≤◌, true, List, [], ◌∷◌, ◌++◌, Option, Some, None, if◌then◌else◌, length}
use Rattle.vm_types.specs.Causes.{Rose}
use Rattle.vm_types.specs.declared.exit.Exit.{Exit}
use Rattle.vm_types.specs.declared.exit.Object.TheVariants as object
use Rattle.vm_outside.specs.Known.{FilesKnown, Health, Lasts, SinkKnown, Tells}
use Rattle.vm_host.specs.Framing.{LinkKnown}
use Rattle.vm_host.specs.Hosting.{VsockKnown}
use Rattle.vm_host.specs.Storing.{DiskKnown}
use Rattle.vm_host.specs.Telling.{ClockKnown}
use Rattle.serve_host.specs.Drawing.{WordsKnown}
use Rattle.vm_host.specs.Giving.{GuestWordsKnown, IsDrawn}
use Rattle.serve_host.specs.Listening.{Ended, ListenerKnown}
use Rattle.command_line.specs.Commands.{ServeWords}
use Rattle.serve_host.specs.Tracing.{TraceKnown}
use Rattle.script_text.specs.declared.item.Item.{Item}
use Rattle.script_text.specs.declared.item.Item.TheVariants as item
use Rattle.responses.specs.Output.{last_line, off_line}
use Rattle.flat_machine.specs.Machine.{AreFilesOf, Machine, console_of, is_off, new_machine}
use Rattle.flat_machine.specs.Run.{Act}
use Rattle.flat_trace.specs.Events.{quiet_act}
use Rattle.flat_trace.specs.Showing.{Out, Run, items_of, said, shown}
use Rattle.monitor_running.specs.Asked.{Healths, HostAnswered, HostKnown, healths}
use Rattle.monitor_running.specs.Reached.{LeadsAhead, NoLineage}
use Rattle.monitor_running.specs.Traced.{traced_known}
use Rattle.monitor_serving.specs.Connections.{AreTold, AreToldInPart, AreToldOff, HaveCome}
use Rattle.monitor_serving.specs.Views.{AllTell, Hosts, hosts_of}
use Rattle.firecracker_cli.specs.declared.outside.ServeOutside.{ServeOutside}

-- what is known of the host objects that serving is handed
pub record ServeKnown : Type 0 where
  pub hosts : Hosts
  pub words : WordsKnown
  pub listener : ListenerKnown

abbrev pub serve_known : Hosts → WordsKnown → ListenerKnown → ServeKnown
serve_known hosts words listener = record { hosts = hosts; words = words; listener = listener }

-- of these objects, by what each of their types tells
abbrev pub serve_known_of : {T K C D L V G F W M : Type 0} → (T → TraceKnown) → (K → SinkKnown) → (C → ClockKnown) → (D → DiskKnown)
    → (L → LinkKnown) → (V → VsockKnown) → (G → GuestWordsKnown) → (F → FilesKnown) → (W → WordsKnown) → (M → ListenerKnown) → K → F
    → ServeOutside D L V G C W M T → ServeKnown
serve_known_of of_trace of_sink of_clock of_disk of_link of_vsock of_guest of_files of_words of_listener sink files with =
    serve_known (hosts_of (traced_known of_trace of_clock of_disk of_link of_vsock of_guest) of_sink of_files with.turns sink files) (of_words with.words)
    (of_listener with.listener)

-- the trace, the sink, the files and the listener tell their content; what is said of the words holds where these tell theirs
pub record ServersTell (known : ServeKnown) : Type 0 where
  pub hosts : AllTell known.hosts
  pub listener : Tells known.listener.health

-- the same objects still tell, and no count fell; the path of the trace may have changed
pub record HostsLast (before now : Hosts) : Type 0 where
  pub trace : Lasts before.slices.trace.health now.slices.trace.health
  pub sink : Lasts before.slices.sink.health now.slices.sink.health
  pub files : Lasts before.files.health now.files.health

-- and so do all
pub record ServersLast (before now : ServeKnown) : Type 0 where
  pub hosts : HostsLast before.hosts now.hosts
  pub words : Lasts before.words.health now.words.health
  pub listener : Lasts before.listener.health now.listener.health

-- no count rose, but for those of connections
pub record NoneFailed (before now : ServeKnown) : Type 0 where
  pub trace : Rose before.hosts.slices.trace.health.faults now.hosts.slices.trace.health.faults → ⊥
  pub sink : Rose before.hosts.slices.sink.health.faults now.hosts.slices.sink.health.faults → ⊥
  pub words : Rose before.words.health.faults now.words.health.faults → ⊥
  pub listener : Rose before.listener.health.faults now.listener.health.faults → ⊥

-- A machine of this id that has not started did these acts, and showed this. The timer was given the clock's answers, and each
-- device those of its disk, its link or its socket.
pub record TraceRan (id : List ℕ) (before : ServeKnown) (host : HostKnown) (acts : List Act) (outs : List Out) (last : Machine) :
    Type 0 where
  pub run : Run acts (new_machine id before.hosts.files.saved before.hosts.files.calls) outs last
  pub asked : HostAnswered acts (new_machine id before.hosts.files.saved before.hosts.files.calls) outs last run
      before.hosts.slices.host host

-- The first act gives the lineage, and no other does. If the source of words tells them, it is the next one.
pub record HasLineage (before now : WordsKnown) (acts : List Act) : Type 0 where
  pub lineage : ℕ
  pub others : List Act
  pub first : acts ≡ quiet_act (item.Lineage lineage) ∷ others
  pub no_more : NoLineage others
  pub drawn : Tells before.health → IsDrawn before.left lineage now.left

-- the trace is that of the path that the words name, if they name one
abbrev pub traced_at : Option (List ℕ) → Option (List ℕ) → Option (List ℕ)
traced_at (Some path) before = Some path
traced_at None before = before

-- it took nothing before, where the words name it
abbrev pub took_before : Option (List ℕ) → List Item → List Item
took_before (Some path) before = []
took_before None before = before

-- connections are taken and the trace is kept where the words say, and the trace took these acts
pub record IsOpen (it : ServeWords) (before now : ServeKnown) (acts : List Act) : Type 0 where
  pub listening : now.listener.path ≡ Some it.socket
  pub traced : now.hosts.slices.trace.path ≡ traced_at it.trace before.hosts.slices.trace.path
  pub took : now.hosts.slices.trace.took ≡ took_before it.trace before.hosts.slices.trace.took ++ items_of acts

-- What was said is what the connections gave and took, and each of them was over; but where the guest turned itself off
-- meanwhile, the last may not have been.
abbrev pub AllTold : Machine → List Out → List Ended → Type 0
AllTold last talk since = AreTold talk since ⊎ ((is_off last ≡ true) × AreToldOff talk since)

-- the sink's last line: where the guest is off, this is told
abbrev pub closing_line : Machine → List ℕ
closing_line m = if is_off m then off_line else []

-- Serving came to its end, since no connection is to come or the guest is off. The trace has all that happened, first the lineage,
-- and all of it is kept. The sink took all that it shows; the console is empty. Every client that came was served in order, and
-- gave and took what was said.
pub record ServedAll (it : ServeWords) (before now : ServeKnown) : Type 0 where
  pub acts : List Act
  pub outs : List Out
  pub last : Machine
  pub since : List Ended
  pub opened : IsOpen it before now acts
  pub ran : TraceRan it.id before now.hosts.slices.host acts outs last
  pub lineage : HasLineage before.words now.words acts
  pub kept : now.hosts.slices.trace.kept ≡ now.hosts.slices.trace.took
  pub over : (now.listener.coming ≡ []) ⊎ (is_off last ≡ true)
  pub came : HaveCome before.listener since now.listener
  pub sink : now.hosts.slices.sink.taken ≡ before.hosts.slices.sink.taken ++ (shown outs ++ closing_line last)
  pub drained : console_of last ≡ []
  pub told : AllTold last (said outs) since
  pub files : AreFilesOf now.hosts.files last

-- what the sink takes last
abbrev pub last_text : Exit → Machine → List ℕ
last_text (Exit.Fault object.Sink) at = closing_line at
last_text exit at = last_line exit

-- the sink lacks nothing of what it should have taken, or an end of the last line, and then its count rose; where its fault is
-- named it may lack any end
abbrev pub SinkLacks : Exit → List ℕ → Health → Health → Type 0
SinkLacks (Exit.Fault object.Sink) rest before now = Unit {0}
SinkLacks exit rest before now =
    (rest ≡ []) ⊎ ((length rest ≤ length (last_line exit)) × Rose before.faults now.faults)

-- all that the trace took is kept, or a call on it failed since
abbrev pub IsKept : TraceKnown → TraceKnown → Type 0
IsKept before now = (now.kept ≡ now.took) ⊎ Rose before.health.faults now.health.faults

-- socket and trace were opened, and then the lineage was told; the trace was finished, unless a call on it failed
pub record HasBegun (it : ServeWords) (before now : ServeKnown) (acts : List Act) : Type 0 where
  pub opened : IsOpen it before now acts
  pub lineage : HasLineage before.words now.words acts
  pub kept : IsKept before.hosts.slices.trace now.hosts.slices.trace

-- the trace is the one of this path, and took these items
pub record IsTrace (under : Option (List ℕ)) (items : List Item) (trace : TraceKnown) : Type 0 where
  pub path : trace.path ≡ under
  pub took : trace.took ≡ items

-- Nothing was opened. Or connections are taken where the words say, and then the trace was opened as they say, or not.
abbrev pub OpensPart : ServeWords → ListenerKnown → TraceKnown → ListenerKnown → TraceKnown → Type 0
OpensPart it listened traced listener trace =
    ((listener.path ≡ listened.path) × IsTrace traced.path traced.took trace)
    ⊎ ((listener.path ≡ Some it.socket)
    × (IsTrace traced.path traced.took trace ⊎ IsTrace (traced_at it.trace traced.path) (took_before it.trace traced.took) trace))

-- nothing happened but that some of it was opened
pub record HasNotBegun (it : ServeWords) (before now : ServeKnown) (acts : List Act) : Type 0 where
  pub none : acts ≡ []
  pub opened : OpensPart it before.listener before.hosts.slices.trace now.listener now.hosts.slices.trace

-- what the clock and the objects of devices were asked since the trace's end: by a trace that failed, in events that it lacks; else
-- nothing
abbrev pub AskedSince : Exit → Healths → Machine → HostKnown → HostKnown → Type 0
AskedSince (Exit.Fault object.Trace) start at told now = (flat : Machine) × LeadsAhead start at told flat now
AskedSince exit start at told now = now ≡ told

-- Serving broke off. What the trace took leads to some machine, whose files are there; if serving came so far, all is open that
-- the words name, and the first act is the lineage. The sink has a front of what it had, what that shows, and the last line.
-- The last connection took a front of its replies, and gave bytes that the trace may lack an end of, or nothing was heard of it.
pub record ServedPart (exit : Exit) (it : ServeWords) (before now : ServeKnown) : Type 0 where
  pub acts : List Act
  pub outs : List Out
  pub at : Machine
  pub host : HostKnown
  pub since : List Ended
  pub ran : TraceRan it.id before host acts outs at
  pub behind : AskedSince exit (healths before.hosts.slices.host.devices) at host now.hosts.slices.host
  pub begun : HasNotBegun it before now acts ⊎ HasBegun it before now acts
  pub came : HaveCome before.listener since now.listener
  pub rest : List ℕ
  pub sink : now.hosts.slices.sink.taken ++ rest ≡ before.hosts.slices.sink.taken ++ (shown outs ++ last_text exit at)
  pub lacks : SinkLacks exit rest before.hosts.slices.sink.health now.hosts.slices.sink.health
  pub told : AreToldInPart (said outs) since
  pub files : AreFilesOf now.hosts.files at

abbrev pub ServedBy : Exit → ServeWords → ServeKnown → ServeKnown → Type 0
ServedBy Exit.Done it before now = ServedAll it before now
ServedBy Exit.Usage it before now = ⊥
ServedBy (Exit.Script line) it before now = ⊥
ServedBy (Exit.Fault object.Source) it before now = ⊥
ServedBy (Exit.Fault object.Files) it before now = ⊥
ServedBy exit it before now = ServedPart exit it before now

-- a fault that is named rose in this call
abbrev pub ServeCause : Exit → ServeKnown → ServeKnown → Type 0
ServeCause (Exit.Fault object.Trace) before now =
    Rose before.hosts.slices.trace.health.faults now.hosts.slices.trace.health.faults
ServeCause (Exit.Fault object.Sink) before now =
    Rose before.hosts.slices.sink.health.faults now.hosts.slices.sink.health.faults
ServeCause (Exit.Fault object.Words) before now = Rose before.words.health.faults now.words.health.faults
ServeCause (Exit.Fault object.Listener) before now = Rose before.listener.health.faults now.listener.health.faults
ServeCause (Exit.Fault other) before now = ⊥
ServeCause (Exit.Script line) before now = ⊥
ServeCause Exit.Usage before now = ⊥
ServeCause exit before now = Unit {0}

-- it ends by no fault
abbrev pub EndsWell : Exit → Type 0
EndsWell Exit.Done = Unit {0}
EndsWell Exit.OutOfMemory = Unit {0}
EndsWell exit = ⊥

-- What the command owes, from what was known of the host objects to what is known now.
-- served: trace fidelity, where the objects tell their content.
-- told: a fault is named only where that object's count rose in this call.
-- complete: where no count rose, it ends with Done, or for want of memory.
-- lasts: what told its content still does, and no count has fallen.
pub record Serves (exit : Exit) (it : ServeWords) (before now : ServeKnown) : Type 0 where
  pub served : ServersTell before → ServedBy exit it before now
  pub told : ServeCause exit before now
  pub complete : NoneFailed before now → EndsWell exit
  pub lasts : ServersLast before now
