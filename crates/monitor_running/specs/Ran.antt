-- How slices end, and what they leave.
use Rattle.std.specs.Prelude.{◌≡◌, true, false, Option, Some, None}
use Rattle.vm_types.specs.Causes.{Rose}
use Rattle.vm_outside.specs.Known.{Lasts, Tells}
use Rattle.serve_host.specs.Tracing.{TraceStays}
use Rattle.flat_guest.specs.Guest.{Guest}
use Rattle.flat_machine.specs.Machine.{Machine, is_off, running}
use Rattle.monitor_machine.specs.declared.machine.LiveMachine.{LiveMachine}
use Rattle.monitor_machine.specs.State.{IsLive}
use Rattle.vm_world.specs.Worlds.{IsWorld, WorldValue}
use Rattle.monitor_running.specs.declared.ran.Ran.{Ran}
use Rattle.monitor_running.specs.declared.ran.Ran.TheVariants as ran
use Rattle.monitor_running.specs.declared.telling.Untold.{Untold}
use Rattle.monitor_running.specs.declared.telling.Untold.TheVariants as untold
use Rattle.monitor_running.specs.Reached.{GetsAhead, IsCut, Keeps, KeepsAs, Known, Seen, seen}

-- the guest of the machine runs, and the world is it
abbrev pub IsRunning : WorldValue → Machine → Type 0
IsRunning w m = (g : Guest) × (running m ≡ Some g) × IsWorld w g

-- it is a machine whose guest turned itself off
abbrev pub IsOff : LiveMachine → Type 0
IsOff live = (m : Machine) × IsLive live m × (is_off m ≡ true)

-- by how slices ended, if they did
abbrev pub RanOn : {B : Type 0} → (B → Machine → Type 0) → Option Ran → Seen → B → Seen → B → Type 0
RanOn Is None old b now c = Keeps Is old b now c
RanOn Is (Some ran.Closed) old b now c = KeepsAs false Is old b now c
RanOn Is (Some ran.Off) old b now c = KeepsAs true Is old b now c
RanOn Is (Some ran.TraceFailed) old b now c = GetsAhead Is old b now c
RanOn Is (Some ran.SinkFailed) old b now c = IsCut Is old b now c
RanOn Is (Some ran.OutOfMemory) old b now c = Keeps Is old b now c

-- an end that names the trace or the sink has its fault
abbrev pub HasFault : Option Ran → Known → Known → Type 0
HasFault (Some ran.TraceFailed) old now = Rose old.trace.health.faults now.trace.health.faults
HasFault (Some ran.SinkFailed) old now = Rose old.sink.health.faults now.sink.health.faults
HasFault end old now = Unit {0}

-- how a slice went, or several, and what they left of the machine and the host objects
pub record Went {B : Type 0} (Is : B → Machine → Type 0) (end : Option Ran) (old : Known) (b : B) (now : Known) (c : B) :
    Type 0 where
  pub ran : Tells old.trace.health → Tells old.sink.health → RanOn Is end (seen old) b (seen now) c
  pub fault : HasFault end old now
  pub trace_lasts : Lasts old.trace.health now.trace.health
  pub trace_stays : TraceStays old.trace now.trace
  pub sink_lasts : Lasts old.sink.health now.sink.health

-- the end for which something was not told
abbrev pub end_by : Untold → Ran
end_by untold.Trace = ran.TraceFailed
end_by untold.Sink = ran.SinkFailed
