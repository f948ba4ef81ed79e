-- The states that a vsock device may be in, and what it has still to do.
use Rattle.std.specs.Prelude.{Bool, false}
use Rattle.device_trace.specs.Script.{Script}
use Rattle.queue_device.specs.declared.device.QueueRounds.{QueueRounds}
use Rattle.queue_device.specs.Kept as rounds
use Rattle.queue_device.specs.Left.{left_at, queued}
use Rattle.queue_device.specs.Service.{Queued}
use Rattle.vsock_device.specs.declared.data.Vsock.{Vsock}
use Rattle.vsock_device.specs.declared.kind.VsockKind.{VsockKind}
use Rattle.vsock_device.specs.Vsock.{vsock}
use Rattle.vsock_device.specs.Work.{hand_of, is_work}

-- what a vsock device has still to do
abbrev pub vsock_left : QueueRounds VsockKind → Script (Queued Vsock)
vsock_left v = left_at vsock v.phase (hand_of v.kind.stage) (queued v.rounds v.kind.own)

abbrev pub is_state : QueueRounds VsockKind → Bool
is_state v = rounds.is_state vsock false is_work v.phase v.rounds v.kind.stage
