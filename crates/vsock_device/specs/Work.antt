-- What a vsock device has to do still, by what its code keeps.
use Rattle.std.specs.Prelude.{ℕ, nat_le, nat_lt, ◌&&◌, Bool, true, false, Option, Some, None, List, length, take}
use Rattle.vm_types.specs.declared.op.Op.{Op}
use Rattle.vm_types.specs.declared.op.Op.TheVariants.{Read, Write, Out}
use Rattle.vm_types.specs.declared.op.OutOp.TheVariants.{HostClose, HostDial, HostSend}
use Rattle.vm_types.specs.declared.reply.Reply.{Reply}
use Rattle.device_trace.specs.Doing.{led}
use Rattle.device_trace.specs.Script.{Script}
use Rattle.vq_split.specs.declared.queue.Part.{Part}
use Rattle.vq_split.specs.Chain.{read_bytes}
use Rattle.vq_split.specs.Kept.{are_inside}
use Rattle.dev_core.specs.declared.collect.Collect.{Collect}
use Rattle.dev_core.specs.Collecting.{collect_left}
use Rattle.dev_core.specs.Pieces.{past, place, room, share}
use Rattle.queue_device.specs.declared.lanes.Which.TheVariants.{First, Second, Third}
use Rattle.queue_device.specs.declared.phase.Work.{Work}
use Rattle.queue_device.specs.declared.phase.Work.TheVariants as work
use Rattle.queue_device.specs.declared.spill.Spill.{Spill}
use Rattle.queue_device.specs.Acting.{Acting, Comes, performing}
use Rattle.queue_device.specs.Left.{Hand}
use Rattle.queue_device.specs.Resuming.{HasKept}
use Rattle.queue_device.specs.Service.{Queued}
use Rattle.queue_device.specs.Spilling.{spill_left}
use Rattle.vsock_device.specs.declared.data.Vsock.{Vsock}
use Rattle.vsock_device.specs.declared.kind.Stage.{Stage}
use Rattle.vsock_device.specs.declared.kind.Stage.TheVariants as stage
use Rattle.vsock_device.specs.Data.{delivered}
use Rattle.vsock_device.specs.Guest.{dialled, forwarding_all, packet_read, passed, piece_read, taken_in, told_open}
use Rattle.vsock_device.specs.Vsock.{told, vsock}

abbrev pub written_next : Spill → Op
written_next spill = Write (place spill.to) (take (share spill.held spill.to) spill.held)

abbrev pub op_of : Stage → Op
op_of stage.Rest = Op.Idle
op_of (stage.Close host) = Out (HostClose host)
op_of (stage.Deliver spill len) = written_next spill
op_of (stage.Event spill) = written_next spill
op_of (stage.Fetch from len) = Read (place from.from) (room from.from)
op_of (stage.Dial header) = Out (HostDial header.dst_port)
op_of (stage.Accept host line) = Out (HostSend line host)
op_of (stage.Send host piece from) = Out (HostSend piece host)
op_of (stage.Read host from) = Read (place from) (room from)

abbrev pub answering_of : Stage → Vsock → Reply → Acting Vsock Bool
answering_of (stage.Close host) e reply = Comes e true
answering_of s e reply = Comes e false

abbrev pub serving_of : Stage → Vsock → Reply → Acting Vsock (Option ℕ)
serving_of (stage.Close host) e reply = taken_in e
serving_of (stage.Deliver spill len) e reply =
    performing (led (spill_left spill) reply) e (λ f left. Comes (delivered f) (Some len))
serving_of (stage.Event spill) e reply = performing (led (spill_left spill) reply) e (λ f left. Comes (told f) (Some 4))
serving_of (stage.Fetch from len) e reply = performing (led (collect_left 44 from) reply) e (packet_read len)
serving_of (stage.Dial header) e reply = dialled reply header e
serving_of (stage.Accept host line) e reply = told_open reply host e
serving_of (stage.Send host piece from) e reply = passed reply host (length piece) e (λ f. forwarding_all host from f)
serving_of (stage.Read host from) e reply =
    piece_read host (read_bytes (room from) reply) e (λ f. forwarding_all host (past (room from) from) f)
serving_of stage.Rest e reply = Comes e None

abbrev pub hand_of : Stage → Hand Vsock
hand_of s = record {
  op = op_of s;
  answering = answering_of s;
  taking = λ e reply. Comes e None;
  serving = serving_of s;
}

-- ---- where it may be, by what its device is at

-- so many bytes are left to do, at parts inside RAM
abbrev pub has_left : ℕ → ℕ → List Part → Bool
has_left pages n parts = nat_lt 0 n && are_inside pages parts && nat_le (length parts) 256

abbrev pub are_parts : ℕ → List Part → Bool
are_parts pages parts = are_inside pages parts && nat_le (length parts) 256

abbrev pub is_spilling : ℕ → Spill → Bool
is_spilling pages spill = has_left pages (share spill.held spill.to) spill.to

-- fewer bytes than a header has came, and there are more
abbrev pub is_fetching : Collect → Bool
is_fetching from = nat_lt (length from.held) 44 && nat_lt 0 (room from.from)

abbrev pub is_work : Work → ℕ → Stage → Bool
is_work work.Rest pages stage.Rest = true
is_work work.Answer pages (stage.Close host) = true
is_work (work.Serve First) pages (stage.Deliver spill len) = is_spilling pages spill
is_work (work.Serve Second) pages (stage.Fetch from len) =
    nat_lt (length from.held) 44 && has_left pages (room from.from) from.from
is_work (work.Serve Second) pages (stage.Close host) = true
is_work (work.Serve Second) pages (stage.Dial header) = true
is_work (work.Serve Second) pages (stage.Accept host line) = true
is_work (work.Serve Second) pages (stage.Send host piece from) = nat_lt 0 (length piece) && are_parts pages from
is_work (work.Serve Second) pages (stage.Read host from) = has_left pages (room from) from
is_work (work.Serve Third) pages (stage.Event spill) = is_spilling pages spill
is_work w pages s = false

-- whatever data it has
abbrev pub AnyVsock : Vsock → Type 0
AnyVsock e = Unit {0}

-- what is kept where this is left
abbrev pub VsockKept : ℕ → ℕ → Script (Queued Vsock) → Type 0
VsockKept port pages t = HasKept vsock hand_of is_work AnyVsock false false port pages t
