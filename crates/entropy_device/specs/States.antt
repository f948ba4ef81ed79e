-- The states that an entropy device may be in, and what it has still to do.
use Rattle.std.specs.Prelude.{Bool, true}
use Rattle.device_trace.specs.Script.{Script}
use Rattle.queue_device.specs.declared.device.QueueRounds.{QueueRounds}
use Rattle.queue_device.specs.Kept as rounds
use Rattle.queue_device.specs.Left.{left_at, queued}
use Rattle.queue_device.specs.Service.{Queued}
use Rattle.entropy_device.specs.Entropy.{Entropy, entropy}
use Rattle.entropy_device.specs.Work.{Kept, hand_of, is_work}

-- what an entropy device has still to do
abbrev pub entropy_left : QueueRounds Kept → Script (Queued Entropy)
entropy_left b = left_at entropy b.phase (hand_of b.kind.stage) (queued b.rounds b.kind.own)

abbrev pub is_state : QueueRounds Kept → Bool
is_state b = rounds.is_state entropy true is_work b.phase b.rounds b.kind.stage
