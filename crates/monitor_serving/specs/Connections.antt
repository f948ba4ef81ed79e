-- Connections one after another: what each gave and took is what was said on it.
use Rattle.std.specs.Prelude.{ℕ, ◌≡◌, ◌⊎◌, ◌<◌, true, List, [], ◌∷◌, ◌++◌, Option, Some, None}
use Rattle.monitor_running.specs.Asked.{HostKnown}
use Rattle.vm_outside.specs.Known.{FilesKnown, Health, SinkKnown}
use Rattle.vm_types.specs.Causes.{Rose}
use Rattle.vm_types.specs.declared.exit.Object.TheVariants as object
use Rattle.serve_host.specs.Listening.{Ended, ListenerKnown, brought}
use Rattle.flat_machine.specs.Machine.{AreFilesOf, Machine, is_off}
use Rattle.flat_trace.specs.Showing.{Out, given, replied}
use Rattle.flat_trace.specs.Showing.Out.{Opened}
use Rattle.monitor_core.specs.declared.monitor.Monitor.{Monitor}
use Rattle.monitor_running.specs.Objects.{TurnKnown}
use Rattle.monitor_running.specs.Reached.{Reached, Start, told_at}
use Rattle.monitor_serving.specs.declared.served.Served.{Served as End}
use Rattle.monitor_serving.specs.declared.served.Served.TheVariants as served
use Rattle.monitor_serving.specs.Turns.{AskedBehind, MayLack}
use Rattle.monitor_serving.specs.Views.{AreHeard, HasClosed, Hosts, Stands, hosts_of, seen_with}

-- A connection that was given back, as the last of what was said: it gave the bytes that were heard, and behind them the unsaid
-- ones, and took the replies but for the unsent ones.
pub record WasSaid (talk before : List Out) (ended : Ended) (unsent unsaid : List ℕ) : Type 0 where
  pub heard : List Out
  pub only : AreHeard heard
  pub is : talk ≡ before ++ (Opened ∷ heard)
  pub gave : ended.gave ≡ given heard ++ unsaid
  pub took : ended.took ++ unsent ≡ replied heard

-- it was over: nothing was left of it, or bytes that are no request were answered, or a call on it failed
abbrev pub WasOver : List Out → Ended → Type 0
WasOver heard ended = (ended.left ≡ []) ⊎ HasClosed heard ⊎ (0 < ended.faults)

-- All that was said is what these connections, the newest first, gave and took, and each was over. One on which a call
-- failed may lack an end of its replies.
abbrev pub AreTold : List Out → List Ended → Type 0
AreTold talk [] = talk ≡ []
AreTold talk (ended ∷ others) =
    (before : List Out) × (unsent : List ℕ) × (said : WasSaid talk before ended unsent [])
    × ((unsent ≡ []) ⊎ (0 < ended.faults)) × WasOver said.heard ended × AreTold before others

-- the last of them may not have been over: the guest turned itself off meanwhile
abbrev pub AreToldOff : List Out → List Ended → Type 0
AreToldOff talk [] = talk ≡ []
AreToldOff talk (ended ∷ others) =
    (before : List Out) × (unsent : List ℕ) × WasSaid talk before ended unsent []
    × ((unsent ≡ []) ⊎ (0 < ended.faults)) × AreTold before others

-- nothing was heard of it, and nothing was said on it
pub record WasUnheard (ended : Ended) : Type 0 where
  pub gave : ended.gave ≡ []
  pub took : ended.took ≡ []

-- or it may lack more: serving broke off in it, or before anything was heard of it
abbrev pub AreToldInPart : List Out → List Ended → Type 0
AreToldInPart talk [] = talk ≡ []
AreToldInPart talk (ended ∷ others) =
    ((before : List Out) × (unsent : List ℕ) × (unsaid : List ℕ) × WasSaid talk before ended unsent unsaid
    × AreTold before others)
    ⊎ (WasUnheard ended × AreTold talk others)

-- the monitor between two connections, and what is known of the host objects and of the listener
pub record Place : Type 0 where
  pub monitor : Monitor
  pub hosts : Hosts
  pub listener : ListenerKnown

abbrev pub place : Monitor → Hosts → ListenerKnown → Place
place monitor hosts listener = record { monitor = monitor; hosts = hosts; listener = listener }

-- These connections have ended since, the newest first. They were the first to come; the others are still to come.
pub record HaveCome (first : ListenerKnown) (since : List Ended) (now : ListenerKnown) : Type 0 where
  pub ended : now.ended ≡ since ++ first.ended
  pub coming : first.coming ≡ brought since ++ now.coming

-- the same listener where one connection more is to come, which gives these bytes
abbrev pub still_coming : List ℕ → ListenerKnown → ListenerKnown
still_coming bytes listener = record listener { coming = bytes ∷ listener.coming }

abbrev pub place_of : {W K F M : Type 0} → (W → TurnKnown) → (K → SinkKnown) → (F → FilesKnown) → (M → ListenerKnown)
    → Monitor → W → K → F → M → Place
place_of of_turns of_sink of_files of_listener monitor with sink files listener =
    place monitor (hosts_of of_turns of_sink of_files with sink files) (of_listener listener)

-- All that happened since a start, when this was known of the listener, is in the trace, and all that it shows was taken.
pub record HasServed (s : Start) (first : ListenerKnown) (now : Place) : Type 0 where
  pub flat : Machine
  pub talk : List Out
  pub since : List Ended
  pub stands : Stands s now.monitor now.hosts flat talk
  pub came : HaveCome first since now.listener
  pub told : AreTold talk since

-- the same where the guest turned itself off
pub record HasGone (s : Start) (first : ListenerKnown) (now : Place) : Type 0 where
  pub flat : Machine
  pub talk : List Out
  pub since : List Ended
  pub stands : Stands s now.monitor now.hosts flat talk
  pub came : HaveCome first since now.listener
  pub told : AreToldOff talk since
  pub off : is_off flat ≡ true

-- Serving broke off. What the trace took leads to some machine, whose files are there; of what that shows, the sink and the
-- last connection took a front.
pub record BrokeOff (end : End) (s : Start) (first : ListenerKnown) (now : Place) : Type 0 where
  pub at : Machine
  pub talk : List Out
  pub since : List Ended
  pub host : HostKnown
  pub unshown : List ℕ
  pub reached : Reached s (seen_with now.hosts.slices unshown host) at talk
  pub came : HaveCome first since now.listener
  pub told : AreToldInPart talk since
  pub shown : MayLack end unshown
  pub files : AreFilesOf now.hosts.files at
  pub behind : AskedBehind end (told_at s) at host now.hosts.slices.host

abbrev pub Serves : End → Place → Place → Type 0
Serves served.Ended old new = (s : Start) (first : ListenerKnown) → HasServed s first old → HasServed s first new
Serves served.Off old new = (s : Start) (first : ListenerKnown) → HasServed s first old → HasGone s first new
Serves end old new = (s : Start) (first : ListenerKnown) → HasServed s first old → BrokeOff end s first new

-- a fault that is named rose in this call; why serving ended otherwise is not said here
abbrev pub EndCause : End → Hosts → Hosts → Health → Health → Type 0
EndCause (served.Fault object.Trace) old new before now = Rose old.slices.trace.health.faults new.slices.trace.health.faults
EndCause (served.Fault object.Sink) old new before now = Rose old.slices.sink.health.faults new.slices.sink.health.faults
EndCause (served.Fault object.Listener) old new before now = Rose before.faults now.faults
EndCause (served.Fault other) old new before now = ⊥
EndCause end old new before now = Unit {0}

-- The end of one connection doesn't end serving. Serving ends by itself only where no connection is to come.
abbrev pub going : End → Option End
going served.Ended = None
going end = Some end

abbrev pub Goes : Option End → Place → Place → Type 0
Goes None old new = Serves served.Ended old new
Goes (Some served.Ended) old new = Serves served.Ended old new × (new.listener.coming ≡ [])
Goes (Some end) old new = Serves end old new

abbrev pub GoCause : Option End → Hosts → Hosts → Health → Health → Type 0
GoCause None old new before now = Unit {0}
GoCause (Some end) old new before now = EndCause end old new before now
