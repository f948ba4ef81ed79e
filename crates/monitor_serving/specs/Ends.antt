-- The ends of serving.
use Rattle.std.specs.Prelude.{Option, Some, None}
use Rattle.vm_types.specs.declared.exit.Object.TheVariants as object
use Rattle.monitor_running.specs.declared.ran.Ran.{Ran}
use Rattle.monitor_running.specs.declared.ran.Ran.TheVariants as ran
use Rattle.monitor_serving.specs.declared.served.Served.{Served}
use Rattle.monitor_serving.specs.declared.served.Served.TheVariants as served

-- that of slices which broke off; a closed gate and a guest that is off are none yet
abbrev pub end_of : Ran → Option Served
end_of ran.Closed = None
end_of ran.Off = None
end_of ran.TraceFailed = Some (served.Fault object.Trace)
end_of ran.SinkFailed = Some (served.Fault object.Sink)
end_of ran.OutOfMemory = Some served.OutOfMemory

-- and while nobody is connected: there the guest being off is one
abbrev pub alone_end : Option Ran → Option Served
alone_end None = None
alone_end (Some ran.Off) = Some served.Off
alone_end (Some it) = end_of it
