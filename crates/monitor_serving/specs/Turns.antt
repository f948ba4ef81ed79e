-- Trace fidelity while a connection is served: what the trace took is a run of the flat machine, which leaves the machine
-- and shows what the sink and the connection took.
use Rattle.std.specs.Prelude.{ℕ, ◌≡◌, ◌⊎◌, true, false, List, [], ◌++◌, Option, Some, None}
use Rattle.vm_types.specs.Causes.{Rose}
use Rattle.vm_types.specs.declared.exit.Object.TheVariants as object
use Rattle.monitor_running.specs.Asked.{Healths, HostKnown}
use Rattle.flat_machine.specs.Machine.{AreFilesOf, Machine, is_off}
use Rattle.flat_trace.specs.Showing.{Out}
use Rattle.monitor_running.specs.Reached.{LeadsAhead, Reached, Start, told_at}
use Rattle.monitor_serving.specs.declared.served.Served.{Served}
use Rattle.monitor_serving.specs.declared.served.Served.TheVariants as served
use Rattle.monitor_serving.specs.Views.{HasClosed, Stands, Talked, View, seen_with}

-- All that happened since is in the trace, and all that this shows was taken, but for these bytes of replies. Where the
-- connection has failed since, an answer ended it.
pub record Continues (s : Start) (old new : View) (talk : List Out) (unsent : List ℕ) : Type 0 where
  pub flat : Machine
  pub heard : List Out
  pub talked : Talked old.conn new.conn heard unsent []
  pub closed : new.monitor.front.failed ≡ true → (old.monitor.front.failed ≡ true) ⊎ HasClosed heard
  pub stands : Stands s new.monitor new.hosts flat (talk ++ heard)

-- what the sink lacks of what is shown, it lacks because a call on it failed
abbrev pub MayLack : Served → List ℕ → Type 0
MayLack (served.Fault object.Sink) unshown = Unit {0}
MayLack end unshown = unshown ≡ []

-- What the clock and the objects of devices were asked since the trace's end. By a trace that failed: in events that it lacks. Else
-- nothing.
abbrev pub AskedBehind : Served → Healths → Machine → HostKnown → HostKnown → Type 0
AskedBehind (served.Fault object.Trace) start at told now = (flat : Machine) × LeadsAhead start at told flat now
AskedBehind end start at told now = now ≡ told

-- Serving broke off. What the trace took leads to some machine, whose files are there, and the answers in it to this of the clock and
-- the objects of devices. Of what that shows the sink and the connection took a front, and of the bytes that came the trace has a front.
pub record Broke (end : Served) (s : Start) (old new : View) (talk : List Out) : Type 0 where
  pub at : Machine
  pub host : HostKnown
  pub unshown : List ℕ
  pub heard : List Out
  pub unsent : List ℕ
  pub unsaid : List ℕ
  pub talked : Talked old.conn new.conn heard unsent unsaid
  pub shown : MayLack end unshown
  pub files : AreFilesOf new.hosts.files at
  pub reached : Reached s (seen_with new.hosts.slices unshown host) at (talk ++ heard)
  pub behind : AskedBehind end (told_at s) at host new.hosts.slices.host

-- However the machine got here, and whatever was said before: nothing is missing
abbrev pub GoesOn : View → View → Type 0
GoesOn old new =
    (s : Start) (m : Machine) (talk : List Out) → Stands s old.monitor old.hosts m talk → Continues s old new talk []

-- and the guest is on: the connection stays open
abbrev pub StaysOpen : View → View → Type 0
StaysOpen old new =
    (s : Start) (m : Machine) (talk : List Out) → Stands s old.monitor old.hosts m talk
    → (on : Continues s old new talk []) × (is_off on.flat ≡ false)

-- The connection is over, and the guest is on. Where a call on the connection failed, it may lack an end of its replies.
abbrev pub EndsConnection : View → View → Type 0
EndsConnection old new =
    (s : Start) (m : Machine) (talk : List Out) → Stands s old.monitor old.hosts m talk
    → (unsent : List ℕ) × (on : Continues s old new talk unsent)
    × ((unsent ≡ []) ⊎ Rose old.conn.health.faults new.conn.health.faults) × (is_off on.flat ≡ false)

-- the guest turned itself off
abbrev pub GoesOff : View → View → Type 0
GoesOff old new =
    (s : Start) (m : Machine) (talk : List Out) → Stands s old.monitor old.hosts m talk
    → (on : Continues s old new talk []) × (is_off on.flat ≡ true)

abbrev pub BreaksOff : Served → View → View → Type 0
BreaksOff end old new =
    (s : Start) (m : Machine) (talk : List Out) → Stands s old.monitor old.hosts m talk → Broke end s old new talk

-- what an end leaves; serving a connection ends by no fault of another object
abbrev pub ServedAs : Served → View → View → Type 0
ServedAs served.Ended old new = EndsConnection old new
ServedAs served.Off old new = GoesOff old new
ServedAs (served.Fault object.Trace) old new = BreaksOff (served.Fault object.Trace) old new
ServedAs (served.Fault object.Sink) old new = BreaksOff (served.Fault object.Sink) old new
ServedAs (served.Fault other) old new = ⊥
ServedAs served.OutOfMemory old new = BreaksOff served.OutOfMemory old new

-- a turn: it goes on, or has come to an end
abbrev pub TurnedAs : Option Served → View → View → Type 0
TurnedAs None old new = StaysOpen old new
TurnedAs (Some end) old new = ServedAs end old new
