-- A vsock device as bytes, as it is kept behind a Reset: it has no connection, and no bytes of the host wait for the guest.
use Rattle.std.specs.Prelude.{◌≡◌, ℕ, zero, suc, Bool, Option, None, List, [], refl}
use Rattle.std.proofs.Common.{sym, ap}
use Rattle.file_format.specs.Format.{Format}
use Rattle.file_format.specs.Kinds.{byte, number16, number32, number64, flag, optional, just, nothing, variant, chosen_by, passing}
use Rattle.file_format.specs.Kinds.{◌&◌, made_of}
use Rattle.vq_split.specs.declared.queue.Part.{Part}
use Rattle.dev_core.specs.declared.collect.Collect.{Collect}
use Rattle.dev_core.specs.Collecting as collecting
use Rattle.queue_device.specs.declared.device.QueueRounds.{QueueRounds}
use Rattle.vsock_packet.specs.declared.header.Header.{Header}
use Rattle.vsock_packet.specs.declared.operation.Operation.{Operation}
use Rattle.vsock_packet.specs.declared.operation.Operation.TheVariants as operations
use Rattle.vsock_packet.specs.Operations.{number_of}
use Rattle.vsock_device.specs.declared.data.InHand.{InHand}
use Rattle.vsock_device.specs.declared.data.InHand.TheVariants as hand
use Rattle.vsock_device.specs.declared.data.Vsock.{Vsock}
use Rattle.vsock_device.specs.declared.kind.Stage.{Stage}
use Rattle.vsock_device.specs.declared.kind.Stage.TheVariants as at
use Rattle.vsock_device.specs.declared.kind.VsockKind.{VsockKind}
use Rattle.vsock_device.specs.declared.packet.Head.{Head}
use Rattle.vsock_device.specs.declared.packet.Packet.{Packet}
use Rattle.vsock_device.specs.Reset.{unconnected}
use Rattle.vsock_device.specs.States.{is_state}
use Rattle.vsock_device.specs.Work.{is_fetching}
use Rattle.snap_devices.specs.Queues.{collect, held, parts, piece}
use Rattle.snap_devices.specs.Places.{place}
use Rattle.snap_devices.specs.Rounds.{rounds}

-- ---- packets for the guest

-- its number in a packet (VIRTIO 1.2, 5.10.6)
abbrev pub numbered : ℕ → Format Operation
numbered zero = nothing
numbered (suc zero) = just operations.Request
numbered (suc (suc zero)) = just operations.Response
numbered (suc (suc (suc zero))) = just operations.Rst
numbered (suc (suc (suc (suc zero)))) = just operations.Shutdown
numbered (suc (suc (suc (suc (suc zero))))) = just operations.Rw
numbered (suc (suc (suc (suc (suc (suc zero)))))) = just operations.CreditUpdate
numbered (suc (suc (suc (suc (suc (suc (suc zero))))))) = just operations.CreditRequest
numbered (suc (suc (suc (suc (suc (suc (suc (suc n)))))))) = nothing

pub number_of-is : (code : ℕ) (o : Operation) → (numbered code).Fits o → code ≡ number_of o
number_of-is zero o fits = absurd fits
number_of-is (suc zero) o fits = sym (ap number_of fits)
number_of-is (suc (suc zero)) o fits = sym (ap number_of fits)
number_of-is (suc (suc (suc zero))) o fits = sym (ap number_of fits)
number_of-is (suc (suc (suc (suc zero)))) o fits = sym (ap number_of fits)
number_of-is (suc (suc (suc (suc (suc zero))))) o fits = sym (ap number_of fits)
number_of-is (suc (suc (suc (suc (suc (suc zero)))))) o fits = sym (ap number_of fits)
number_of-is (suc (suc (suc (suc (suc (suc (suc zero))))))) o fits = sym (ap number_of fits)
number_of-is (suc (suc (suc (suc (suc (suc (suc (suc n)))))))) o fits = absurd fits

unfoldable pub operation : Format Operation
operation = chosen_by byte numbered number_of number_of-is

-- its operation, its two ports, and how many of the guest's bytes went to the host
unfoldable pub head : Format Head
head =
    made_of (λ h. (h.operation, (h.host_port, (h.guest_port, h.fwd_cnt))))
    (λ (operation, (host_port, (guest_port, fwd_cnt))).
    record { operation = operation; host_port = host_port; guest_port = guest_port; fwd_cnt = fwd_cnt })
    (λ _. refl) (λ _. refl)
    (operation & number32 & number32 & number32)

-- and the bytes that it carries
unfoldable pub packet : Format Packet
packet =
    made_of (λ p. (p.head, p.bytes)) (λ (head, bytes). record { head = head; bytes = bytes }) (λ _. refl) (λ _. refl)
    (head & piece)

-- ---- the chain in hand, as far as it matters to a reset: a byte, and behind it what it has of that

abbrev pub hand_code : InHand → ℕ
hand_code hand.Free = 0
hand_code (hand.Receives p) = 1
hand_code hand.Unjudged = 2
hand_code hand.Orphaned = 3
hand_code (hand.Judged refusal) = 4

abbrev pub no_packet : Packet
no_packet = record {
  head = record { operation = operations.Rst; host_port = 0; guest_port = 0; fwd_cnt = 0 };
  bytes = [];
}

abbrev pub packet_of : InHand → Packet
packet_of (hand.Receives p) = p
packet_of _ = no_packet

abbrev pub refusal_of : InHand → Option Head
refusal_of (hand.Judged refusal) = refusal
refusal_of _ = None

abbrev pub hands : ℕ → Format InHand
hands zero = just hand.Free
hands (suc zero) = variant hand.Receives packet_of (λ _. refl) packet
hands (suc (suc zero)) = just hand.Unjudged
hands (suc (suc (suc zero))) = just hand.Orphaned
hands (suc (suc (suc (suc zero)))) = variant hand.Judged refusal_of (λ _. refl) (optional head)
hands (suc (suc (suc (suc (suc n))))) = nothing

pub hand_code-is : (code : ℕ) (h : InHand) → (hands code).Fits h → code ≡ hand_code h
hand_code-is zero h fits = sym (ap hand_code fits)
hand_code-is (suc zero) h fits = sym (ap hand_code fits.0)
hand_code-is (suc (suc zero)) h fits = sym (ap hand_code fits)
hand_code-is (suc (suc (suc zero))) h fits = sym (ap hand_code fits)
hand_code-is (suc (suc (suc (suc zero)))) h fits = sym (ap hand_code fits.0)
hand_code-is (suc (suc (suc (suc (suc n))))) h fits = absurd fits

unfoldable pub in_hand : Format InHand
in_hand = chosen_by byte hands hand_code hand_code-is

-- ---- its data

abbrev pub Kept : Type 0
Kept = ℕ × (ℕ × (Option Head × (InHand × Bool)))

abbrev pub made : Kept → Vsock
made (guest_cid, (next_port, (answer, (hand, reset_due)))) = unconnected guest_cid next_port answer hand reset_due

abbrev pub kept_of : Vsock → Kept
kept_of e = (e.guest_cid, (e.next_port, (e.answer, (e.in_hand, e.reset_due))))

-- the guest's CID, the next port at the host, the answer that waits, the chain in hand, and whether the guest is to be told that its
-- connections are gone
unfoldable pub vsock_data : Format Vsock
vsock_data = variant made kept_of (λ _. refl) (number64 & number32 & optional head & in_hand & flag)

-- ---- what it is at: a byte, and behind it what it has of that

-- the fields of a header, in the order in which they stand there
unfoldable pub header : Format Header
header =
    made_of
    (λ h. ((h.src_cid, (h.dst_cid, (h.src_port, (h.dst_port, h.len)))), (h.socket_type, (h.op, (h.flags, (h.buf_alloc, h.fwd_cnt))))))
    (λ ((src_cid, (dst_cid, (src_port, (dst_port, len)))), (socket_type, (op, (flags, (buf_alloc, fwd_cnt))))).
    record {
      src_cid = src_cid;
      dst_cid = dst_cid;
      src_port = src_port;
      dst_port = dst_port;
      len = len;
      socket_type = socket_type;
      op = op;
      flags = flags;
      buf_alloc = buf_alloc;
      fwd_cnt = fwd_cnt;
    })
    (λ _. refl) (λ _. refl)
    ((number64 & number64 & number32 & number32 & number32) & (number16 & number16 & number32 & number32 & number32))

abbrev pub stage_code : Stage → ℕ
stage_code at.Rest = 0
stage_code (at.Close host) = 1
stage_code (at.Deliver spill len) = 2
stage_code (at.Event spill) = 3
stage_code (at.Fetch from len) = 4
stage_code (at.Dial header) = 5
stage_code (at.Accept host line) = 6
stage_code (at.Send host piece from) = 7
stage_code (at.Read host from) = 8

-- the number of the connection that is closed
abbrev pub closing_of : Stage → ℕ
closing_of (at.Close host) = host
closing_of _ = 0

-- the bytes that are left of a packet, the parts for them, and how many the packet has
abbrev pub delivering_of : Stage → List ℕ × (List Part × ℕ)
delivering_of (at.Deliver spill len) = (spill.held, (spill.to, len))
delivering_of _ = ([], ([], 0))

-- the bytes that are left of an event, and the parts for them
abbrev pub telling_of : Stage → List ℕ × List Part
telling_of (at.Event spill) = (spill.held, spill.to)
telling_of _ = ([], [])

-- fewer bytes than a header has, and the parts behind them
unfoldable pub fetching : Format Collect
fetching = passing is_fetching collect

-- and how many bytes the packet has behind its header
abbrev pub fetching_of : Stage → Collect × ℕ
fetching_of (at.Fetch from len) = (from, len)
fetching_of _ = (collecting.nothing, 0)

abbrev pub no_header : Header
no_header = record {
  src_cid = 0;
  dst_cid = 0;
  src_port = 0;
  dst_port = 0;
  len = 0;
  socket_type = 0;
  op = 0;
  flags = 0;
  buf_alloc = 0;
  fwd_cnt = 0;
}

-- the header of the packet that asks for a connection
abbrev pub dialling_of : Stage → Header
dialling_of (at.Dial header) = header
dialling_of _ = no_header

-- the number of the connection that is accepted, and the line that tells it
abbrev pub accepting_of : Stage → ℕ × List ℕ
accepting_of (at.Accept host line) = (host, line)
accepting_of _ = (0, [])

-- that of one that is sent to, a piece, and the parts behind it
abbrev pub sending_of : Stage → ℕ × (List ℕ × List Part)
sending_of (at.Send host piece from) = (host, (piece, from))
sending_of _ = (0, ([], []))

abbrev pub reading_of : Stage → ℕ × List Part
reading_of (at.Read host from) = (host, from)
reading_of _ = (0, [])

abbrev pub stages : ℕ → Format Stage
stages zero = just at.Rest
stages (suc zero) = variant at.Close closing_of (λ _. refl) number32
stages (suc (suc zero)) =
    variant (λ d. at.Deliver (record { held = d.0; to = d.1.0 }) d.1.1) delivering_of (λ _. refl) (held & parts & number32)
stages (suc (suc (suc zero))) =
    variant (λ e. at.Event (record { held = e.0; to = e.1 })) telling_of (λ _. refl) (held & parts)
stages (suc (suc (suc (suc zero)))) = variant (λ f. at.Fetch f.0 f.1) fetching_of (λ _. refl) (fetching & number64)
stages (suc (suc (suc (suc (suc zero))))) = variant at.Dial dialling_of (λ _. refl) header
stages (suc (suc (suc (suc (suc (suc zero)))))) = variant (λ a. at.Accept a.0 a.1) accepting_of (λ _. refl) (number32 & piece)
stages (suc (suc (suc (suc (suc (suc (suc zero))))))) =
    variant (λ s. at.Send s.0 s.1.0 s.1.1) sending_of (λ _. refl) (number32 & piece & parts)
stages (suc (suc (suc (suc (suc (suc (suc (suc zero)))))))) =
    variant (λ r. at.Read r.0 r.1) reading_of (λ _. refl) (number32 & parts)
stages (suc (suc (suc (suc (suc (suc (suc (suc (suc n))))))))) = nothing

pub stage_code-is : (code : ℕ) (s : Stage) → (stages code).Fits s → code ≡ stage_code s
stage_code-is zero s fits = sym (ap stage_code fits)
stage_code-is (suc zero) s fits = sym (ap stage_code fits.0)
stage_code-is (suc (suc zero)) s fits = sym (ap stage_code fits.0)
stage_code-is (suc (suc (suc zero))) s fits = sym (ap stage_code fits.0)
stage_code-is (suc (suc (suc (suc zero)))) s fits = sym (ap stage_code fits.0)
stage_code-is (suc (suc (suc (suc (suc zero))))) s fits = sym (ap stage_code fits.0)
stage_code-is (suc (suc (suc (suc (suc (suc zero)))))) s fits = sym (ap stage_code fits.0)
stage_code-is (suc (suc (suc (suc (suc (suc (suc zero))))))) s fits = sym (ap stage_code fits.0)
stage_code-is (suc (suc (suc (suc (suc (suc (suc (suc zero)))))))) s fits = sym (ap stage_code fits.0)
stage_code-is (suc (suc (suc (suc (suc (suc (suc (suc (suc n))))))))) s fits = absurd fits

unfoldable pub stage : Format Stage
stage = chosen_by byte stages stage_code stage_code-is

-- ---- the device

unfoldable pub vsock_fields : Format (QueueRounds VsockKind)
vsock_fields =
    made_of (λ v. (v.rounds, (v.phase, (v.kind.own, v.kind.stage))))
    (λ (rounds, (phase, (own, stage))). record { rounds = rounds; kind = record { own = own; stage = stage }; phase = phase })
    (λ _. refl) (λ _. refl)
    (rounds & place & vsock_data & stage)

-- of a state that it may be in
unfoldable pub vsock : Format (QueueRounds VsockKind)
vsock = passing is_state vsock_fields
