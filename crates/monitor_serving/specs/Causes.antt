-- Why serving a connection ends.
use Rattle.std.specs.Prelude.{◌≡◌, ◌⊎◌, true, [], Option, Some, None}
use Rattle.vm_types.specs.Causes.{Rose}
use Rattle.vm_types.specs.declared.exit.Object.TheVariants as object
use Rattle.vm_outside.specs.Known.{Health, Tells}
use Rattle.serve_host.specs.Passing.{ConnKnown}
use Rattle.monitor_core.specs.declared.monitor.Monitor.{Monitor}
use Rattle.monitor_serving.specs.declared.served.Served.{Served}
use Rattle.monitor_serving.specs.declared.served.Served.TheVariants as served
use Rattle.monitor_serving.specs.Views.{View}

-- it was read to its end, so that nothing is left of it; or it came to bytes that are no request; or a call on it failed
abbrev pub IsOver : Monitor → ConnKnown → ConnKnown → Type 0
IsOver monitor old new =
    (Tells old.health → new.left ≡ []) ⊎ (monitor.front.failed ≡ true) ⊎ Rose old.health.faults new.health.faults

-- an answer ends the connection, or finds the guest off or no memory
abbrev pub ReplyCause : Served → Monitor → ConnKnown → ConnKnown → Type 0
ReplyCause served.Ended monitor old new = (monitor.front.failed ≡ true) ⊎ Rose old.health.faults new.health.faults
ReplyCause (served.Fault name) monitor old new = ⊥
ReplyCause end monitor old new = Unit {0}

-- or the trace failed
abbrev pub AnswerCause : Served → Monitor → Health → Health → ConnKnown → ConnKnown → Type 0
AnswerCause served.Ended monitor trace traced old new = IsOver monitor old new
AnswerCause (served.Fault object.Trace) monitor trace traced old new = Rose trace.faults traced.faults
AnswerCause (served.Fault other) monitor trace traced old new = ⊥
AnswerCause end monitor trace traced old new = Unit {0}

-- a fault that is named rose in this call
abbrev pub ServedCause : Served → View → View → Type 0
ServedCause served.Ended old new = IsOver new.monitor old.conn new.conn
ServedCause (served.Fault object.Trace) old new = Rose old.hosts.slices.trace.health.faults new.hosts.slices.trace.health.faults
ServedCause (served.Fault object.Sink) old new = Rose old.hosts.slices.sink.health.faults new.hosts.slices.sink.health.faults
ServedCause (served.Fault other) old new = ⊥
ServedCause end old new = Unit {0}

abbrev pub TurnedCause : Option Served → View → View → Type 0
TurnedCause None old new = Unit {0}
TurnedCause (Some end) old new = ServedCause end old new
