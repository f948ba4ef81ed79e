-- What is known of a host with a trace.
use Rattle.vm_host.specs.Framing.{LinkKnown}
use Rattle.vm_host.specs.Giving.{GuestWordsKnown}
use Rattle.vm_host.specs.Hosting.{VsockKnown}
use Rattle.vm_host.specs.Storing.{DiskKnown}
use Rattle.vm_host.specs.Telling.{ClockKnown}
use Rattle.serve_host.specs.Tracing.{TraceKnown}
use Rattle.monitor_running.specs.declared.objects.TracedHost.{TracedHost}
use Rattle.monitor_running.specs.Asked.{host_known}
use Rattle.monitor_running.specs.Objects.{TurnKnown}

-- by what each of the types tells
abbrev pub traced_known : {D L V G C T : Type 0} → (T → TraceKnown) → (C → ClockKnown) → (D → DiskKnown) → (L → LinkKnown) → (V → VsockKnown) → (G → GuestWordsKnown)
    → TracedHost D L V G C T → TurnKnown
traced_known of_trace of_clock of_disk of_link of_vsock of_guest it =
    record { trace = of_trace it.trace; host = host_known of_clock of_disk of_link of_vsock of_guest it.host }
