-- What telling leaves of the objects, whatever is told.
use Rattle.std.specs.Prelude.{◌≡◌, IfErr, Result}
use Rattle.vm_types.specs.Causes.{Rose}
use Rattle.vm_outside.specs.Known.{Lasts, SinkKnown}
use Rattle.serve_host.specs.Tracing.{TraceKnown, TraceStays}
use Rattle.vm_world.specs.Worlds.{WorldValue}
use Rattle.monitor_running.specs.declared.telling.Untold.{Untold}
use Rattle.monitor_running.specs.declared.telling.Untold.TheVariants as untold
use Rattle.monitor_running.specs.Staying.{MayBeDrained}

-- The console may be drained. What told its content still does, the trace is that of the same path, and what was not told to its end has
-- a fault.
pub record TellingLasts {T : Type 0} (result : Result T Untold) (w : WorldValue) (trace : TraceKnown) (sink : SinkKnown) (v : WorldValue)
    (traced : TraceKnown) (sunk : SinkKnown) : Type 0 where
  pub world : MayBeDrained w v
  pub trace_cause : IfErr result (λ why. why ≡ untold.Trace → Rose trace.health.faults traced.health.faults)
  pub sink_cause : IfErr result (λ why. why ≡ untold.Sink → Rose sink.health.faults sunk.health.faults)
  pub trace_lasts : Lasts trace.health traced.health
  pub trace_stays : TraceStays trace traced
  pub sink_lasts : Lasts sink.health sunk.health
