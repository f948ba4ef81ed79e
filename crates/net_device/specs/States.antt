-- The states that a network device may be in, and what it has still to do.
use Rattle.std.specs.Prelude.{Bool, true}
use Rattle.device_trace.specs.Script.{Script}
use Rattle.queue_device.specs.declared.device.QueueRounds.{QueueRounds}
use Rattle.queue_device.specs.Kept as rounds
use Rattle.queue_device.specs.Left.{left_at, queued}
use Rattle.queue_device.specs.Service.{Queued}
use Rattle.net_device.specs.Net.{Net, net}
use Rattle.net_device.specs.Work.{Kept, hand_of, is_work}

-- what a network device has still to do
abbrev pub net_left : QueueRounds Kept → Script (Queued Net)
net_left n = left_at net n.phase (hand_of n.kind.doing) (queued n.rounds n.kind.own)

abbrev pub is_state : QueueRounds Kept → Bool
is_state n = rounds.is_state net true is_work n.phase n.rounds n.kind.doing
