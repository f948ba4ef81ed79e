-- The states that a balloon may be in, and what it has still to do.
use Rattle.std.specs.Prelude.{Bool, true}
use Rattle.device_trace.specs.Script.{Script}
use Rattle.queue_device.specs.declared.device.QueueRounds.{QueueRounds}
use Rattle.queue_device.specs.Kept as rounds
use Rattle.queue_device.specs.Left.{left_at, queued}
use Rattle.queue_device.specs.Service.{Queued}
use Rattle.balloon_device.specs.Balloon.{Balloon, balloon}
use Rattle.balloon_device.specs.Work.{Kept, hand_of, is_work}

-- what a balloon has still to do
abbrev pub balloon_left : QueueRounds Kept → Script (Queued Balloon)
balloon_left b = left_at balloon b.phase (hand_of b.kind.stage) (queued b.rounds b.kind.own)

abbrev pub is_state : QueueRounds Kept → Bool
is_state b = rounds.is_state balloon true is_work b.phase b.rounds b.kind.stage
