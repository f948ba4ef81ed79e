-- What is read of a vsock device has its widths.
use Rattle.std.proofs.Common.{◌≤◌, ℕ, sym, subst, List, length, Option, Some, None}
use Rattle.std.specs.List.{All}
use Rattle.std.proofs.lemmas.Bool.{leb-true}
use Rattle.std.proofs.lemmas.List.Elements.{All-nil}
use Rattle.le_fields.specs.Fields.{IsByte}
use Rattle.file_format.specs.Kinds.{optional}
use Rattle.file_format.proofs.Fitting.{of16, of32, of64, of_optional}
use Rattle.queue_device.specs.declared.device.QueueRounds.{QueueRounds}
use Rattle.vsock_packet.specs.declared.header.Header.{Header}
use Rattle.vsock_packet.specs.Header as headers
use Rattle.vsock_device.specs.declared.data.InHand.{InHand}
use Rattle.vsock_device.specs.declared.data.InHand.TheVariants as hand
use Rattle.vsock_device.specs.declared.data.Vsock.{Vsock}
use Rattle.vsock_device.specs.declared.kind.Stage.{Stage}
use Rattle.vsock_device.specs.declared.kind.Stage.TheVariants as at
use Rattle.vsock_device.specs.declared.kind.VsockKind.{VsockKind}
use Rattle.vsock_device.specs.declared.packet.Head.{Head}
use Rattle.vsock_device.specs.declared.packet.Packet.{Packet}
use Rattle.vsock_device.specs.Small.{IsSmallAnswer, IsSmallConnection, IsSmallData, IsSmallHand, IsSmallHead, IsSmallPacket, IsSmallStage}
use Rattle.guest_devices.specs.declared.device.Device.TheVariants as kept
use Rattle.guest_devices.specs.Narrow.{IsNarrowKept}
use Rattle.snap_devices.specs.Devices.{device}
use Rattle.snap_devices.specs.Queues.{held, piece}
use Rattle.snap_devices.specs.Vsocks.{vsock_data, head, header, in_hand, packet, stage as stage_format, vsock, vsock_fields}
use Rattle.snap_devices.proofs.Narrow.{HoldsPhase}
use Rattle.snap_devices.proofs.RoundsNarrow.{AreAllHeld, place_narrow, rounds_narrow}

-- ---- its data

head_small : (h : Head) → head.Fits h → IsSmallHead h
unfolding head
head_small h own = record {
  host_port = of32 h.host_port own.1.0;
  guest_port = of32 h.guest_port own.1.1.0;
  fwd_cnt = of32 h.fwd_cnt own.1.1.1;
}

answer_small : (o : Option Head) → (optional head).Fits o → IsSmallAnswer o
answer_small None own = tt
answer_small (Some h) own = head_small h (of_optional head h own)

piece_most : (bytes : List ℕ) → piece.Fits bytes → length bytes ≤ 64
unfolding piece
piece_most bytes own = leb-true (length bytes) 64 own.1

held_most : (bytes : List ℕ) → held.Fits bytes → length bytes ≤ 128
unfolding held
held_most bytes own = leb-true (length bytes) 128 own.1

packet_small : (p : Packet) → packet.Fits p → All IsByte p.bytes → IsSmallPacket p
unfolding packet
packet_small p own bytes = record { head = head_small p.head own.0; bytes = (piece_most p.bytes own.1, bytes) }

-- the bytes of a packet in hand
abbrev pub HoldsPacket : InHand → Type 0
HoldsPacket (hand.Receives p) = All IsByte p.bytes
HoldsPacket h = Unit {0}

hand_small : (h : InHand) → in_hand.Fits h → HoldsPacket h → IsSmallHand h
unfolding in_hand
hand_small hand.Free own bytes = tt
hand_small (hand.Receives p) own bytes = packet_small p own.1.1 bytes
hand_small hand.Unjudged own bytes = tt
hand_small hand.Orphaned own bytes = tt
hand_small (hand.Judged refusal) own bytes = answer_small refusal own.1.1

-- such data have no connection
data_small : (e : Vsock) → vsock_data.Fits e → HoldsPacket e.in_hand → IsSmallData e
unfolding vsock_data
data_small e own bytes = subst IsSmallData (sym own.0) (record {
  guest_cid = of64 e.guest_cid own.1.0;
  next_port = of32 e.next_port own.1.1.0;
  connections = All-nil IsSmallConnection;
  answer = answer_small e.answer own.1.1.1.0;
  held = tt;
  in_hand = hand_small e.in_hand own.1.1.1.1.0 bytes;
})

-- ---- what it is at

header_small : (h : Header) → header.Fits h → headers.Fits h
unfolding header
header_small h own = record {
  src_cid = of64 h.src_cid own.0.0;
  dst_cid = of64 h.dst_cid own.0.1.0;
  src_port = of32 h.src_port own.0.1.1.0;
  dst_port = of32 h.dst_port own.0.1.1.1.0;
  len = of32 h.len own.0.1.1.1.1;
  socket_type = of16 h.socket_type own.1.0;
  op = of16 h.op own.1.1.0;
  flags = of32 h.flags own.1.1.1.0;
  buf_alloc = of32 h.buf_alloc own.1.1.1.1.0;
  fwd_cnt = of32 h.fwd_cnt own.1.1.1.1.1;
}

-- the bytes that it holds
abbrev pub HoldsAct : Stage → Type 0
HoldsAct (at.Deliver spill len) = All IsByte spill.held
HoldsAct (at.Event spill) = All IsByte spill.held
HoldsAct (at.Fetch from len) = All IsByte from.held
HoldsAct (at.Accept host line) = All IsByte line
HoldsAct (at.Send host sent from) = All IsByte sent
HoldsAct s = Unit {0}

stage_small : (s : Stage) → stage_format.Fits s → HoldsAct s → IsSmallStage s
unfolding stage_format
stage_small at.Rest own bytes = tt
stage_small (at.Close host) own bytes = of32 host own.1.1
stage_small (at.Deliver spill len) own bytes = ((held_most spill.held own.1.1.0, bytes), of32 len own.1.1.1.1)
stage_small (at.Event spill) own bytes = (held_most spill.held own.1.1.0, bytes)
stage_small (at.Fetch from len) own bytes = (bytes, of64 len own.1.1.1)
stage_small (at.Dial h) own bytes = header_small h own.1.1
stage_small (at.Accept host line) own bytes = (of32 host own.1.1.0, (piece_most line own.1.1.1, bytes))
stage_small (at.Send host sent from) own bytes = (of32 host own.1.1.0, (piece_most sent own.1.1.1.0, bytes))
stage_small (at.Read host from) own bytes = of32 host own.1.1.0

-- ---- all of it

-- what it holds are bytes
abbrev pub HoldsVsock : QueueRounds VsockKind → Type 0
HoldsVsock v = HoldsPacket v.kind.own.in_hand × HoldsAct v.kind.stage × AreAllHeld v.rounds × HoldsPhase v.phase

vsock_narrow : (v : QueueRounds VsockKind) → vsock.Fits v → HoldsVsock v → IsNarrowKept (kept.Vsock v)
unfolding vsock vsock_fields
vsock_narrow v own bytes = (
  rounds_narrow v.rounds own.0.0 bytes.2,
  place_narrow v.phase own.0.1.0 bytes.3,
  stage_small v.kind.stage own.0.1.1.1 bytes.1,
  λ yes. data_small v.kind.own own.0.1.1.0 bytes.0,
)

pub vsock_is : (v : QueueRounds VsockKind) → device.Fits (kept.Vsock v) → HoldsVsock v → IsNarrowKept (kept.Vsock v)
unfolding device
vsock_is v own bytes = vsock_narrow v own.1.1 bytes
