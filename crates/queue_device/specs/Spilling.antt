-- What is left of writing bytes.
use Rattle.std.specs.Prelude.{List}
use Rattle.device_trace.specs.Doing.{Doing}
use Rattle.vq_split.specs.declared.queue.Part.{Part}
use Rattle.dev_core.specs.Pieces.{put_all}
use Rattle.queue_device.specs.declared.spill.Spill.{Spill}

abbrev pub spill_left : Spill → Doing (List Part)
spill_left s = put_all s.held s.to
