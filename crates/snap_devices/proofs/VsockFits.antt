-- A vsock device without a connection in the fields of a file: what is kept of it fits, where each number of it has its width.
use Rattle.std.proofs.Common.{◌≡◌, ◌≤◌, ◌<◌, ◌^◌, ℕ, true, false, refl, arith, List, length, Option, Some, None}
use Rattle.std.proofs.lemmas.Bool.{le-leb}
use Rattle.file_format.specs.Kinds.{optional}
use Rattle.file_format.proofs.Fitting.{fits16, fits32, fits64, fits8, fits_bytes, fits_flag, fits_optional}
use Rattle.dev_core.specs.declared.collect.Collect.{Collect}
use Rattle.dev_core.specs.Pieces.{room, share}
use Rattle.queue_device.specs.declared.device.QueueRounds.{QueueRounds}
use Rattle.queue_device.specs.declared.lanes.Which.{Which}
use Rattle.queue_device.specs.declared.lanes.Which.TheVariants.{First, Second, Third}
use Rattle.queue_device.specs.declared.phase.Work.{Work}
use Rattle.queue_device.specs.declared.phase.Work.TheVariants as work
use Rattle.queue_device.specs.Kept.{work_of}
use Rattle.queue_device.specs.Resuming.{AreShort}
use Rattle.queue_device.specs.Sizes.{IsNarrowPhase}
use Rattle.queue_device.proofs.KeptStays.{TestParts}
use Rattle.vsock_packet.specs.declared.header.Header.{Header}
use Rattle.vsock_packet.specs.declared.operation.Operation.{Operation}
use Rattle.vsock_packet.specs.declared.operation.Operation.TheVariants as operations
use Rattle.vsock_packet.specs.Header as headers
use Rattle.vsock_device.specs.declared.data.InHand.{InHand}
use Rattle.vsock_device.specs.declared.data.InHand.TheVariants as hand
use Rattle.vsock_device.specs.declared.data.Vsock.{Vsock}
use Rattle.vsock_device.specs.declared.kind.Stage.{Stage}
use Rattle.vsock_device.specs.declared.kind.Stage.TheVariants as at
use Rattle.vsock_device.specs.declared.kind.VsockKind.{VsockKind}
use Rattle.vsock_device.specs.declared.packet.Head.{Head}
use Rattle.vsock_device.specs.declared.packet.Packet.{Packet}
use Rattle.vsock_device.specs.Reset.{is_unconnected}
use Rattle.vsock_device.specs.Small.{IsSizedData, IsSmallAnswer, IsSmallData, IsSmallHand, IsSmallHead, IsSmallPacket, IsSmallPiece, IsSmallStage}
use Rattle.vsock_device.specs.States.{is_state}
use Rattle.vsock_device.specs.Vsock as vsocks
use Rattle.vsock_device.specs.Work.{is_work}
use Rattle.vsock_device.proofs.Stages.{fetches_of, has_of, no_take, sends_of}
use Rattle.vsock_device.proofs.Unconnected as behind
use Rattle.snap_devices.specs.Queues.{piece}
use Rattle.snap_devices.specs.Vsocks.{vsock_data, fetching, head, header, in_hand, operation, packet, stage as stage_format, vsock, vsock_fields}
use Rattle.snap_devices.proofs.PieceFits.{collect_fits, held_fits, parts_fit}
use Rattle.snap_devices.proofs.Reading.{is_fetched}
use Rattle.snap_devices.proofs.RoundsFits.{facts, place_fits, rounds_fit}

-- ---- its data

operation_fits : (o : Operation) → operation.Fits o
unfolding operation
operation_fits operations.Request = (fits8 1 (omega arith), refl)
operation_fits operations.Response = (fits8 2 (omega arith), refl)
operation_fits operations.Rst = (fits8 3 (omega arith), refl)
operation_fits operations.Shutdown = (fits8 4 (omega arith), refl)
operation_fits operations.Rw = (fits8 5 (omega arith), refl)
operation_fits operations.CreditUpdate = (fits8 6 (omega arith), refl)
operation_fits operations.CreditRequest = (fits8 7 (omega arith), refl)

head_fits : (h : Head) → IsSmallHead h → head.Fits h
unfolding head
head_fits h small =
    (operation_fits h.operation, (fits32 h.host_port small.host_port, (fits32 h.guest_port small.guest_port, fits32 h.fwd_cnt small.fwd_cnt)))

answer_fits : (o : Option Head) → IsSmallAnswer o → (optional head).Fits o
answer_fits None small = fits_optional head None tt
answer_fits (Some h) small = fits_optional head (Some h) (head_fits h small)

piece_fits : (bytes : List ℕ) → IsSmallPiece bytes → piece.Fits bytes
unfolding piece
piece_fits bytes small =
    let most = small.0 in
    (fits_bytes bytes (omega (arith, most)), le-leb (length bytes) 64 most)

packet_fits : (p : Packet) → IsSmallPacket p → packet.Fits p
unfolding packet
packet_fits p small = (head_fits p.head small.head, piece_fits p.bytes small.bytes)

in_hand_fits : (h : InHand) → IsSmallHand h → in_hand.Fits h
unfolding in_hand
in_hand_fits hand.Free small = (fits8 0 (omega arith), refl)
in_hand_fits (hand.Receives p) small = (fits8 1 (omega arith), (refl, packet_fits p small))
in_hand_fits hand.Unjudged small = (fits8 2 (omega arith), refl)
in_hand_fits hand.Orphaned small = (fits8 3 (omega arith), refl)
in_hand_fits (hand.Judged refusal) small = (fits8 4 (omega arith), (refl, answer_fits refusal small))

data_fits : (e : Vsock) → is_unconnected e ≡ true → IsSmallData e → vsock_data.Fits e
unfolding vsock_data
data_fits e gone small = (
  behind.made_of e gone,
  (
    fits64 e.guest_cid small.guest_cid,
    (
      fits32 e.next_port small.next_port,
      (answer_fits e.answer small.answer, (in_hand_fits e.in_hand small.in_hand, fits_flag e.reset_due)),
    ),
  ),
)

-- ---- what it is at

header_fits : (h : Header) → headers.Fits h → header.Fits h
unfolding header
header_fits h is = (
  (
    fits64 h.src_cid is.src_cid,
    (fits64 h.dst_cid is.dst_cid, (fits32 h.src_port is.src_port, (fits32 h.dst_port is.dst_port, fits32 h.len is.len))),
  ),
  (
    fits16 h.socket_type is.socket_type,
    (fits16 h.op is.op, (fits32 h.flags is.flags, (fits32 h.buf_alloc is.buf_alloc, fits32 h.fwd_cnt is.fwd_cnt))),
  ),
)

rest_fits : stage_format.Fits at.Rest
unfolding stage_format
rest_fits = (fits8 0 (omega arith), refl)

close_fits : (host : ℕ) → host < 2 ^ 32 → stage_format.Fits (at.Close host)
unfolding stage_format
close_fits host small = (fits8 1 (omega arith), (refl, fits32 host small))

module _ (pages : ℕ) (few : pages ≤ 2 ^ 20) where
  fetching_fits : (len : ℕ) (from : Collect) → is_work (work.Serve Second) pages (at.Fetch from len) ≡ true
      → IsSmallStage (at.Fetch from len) → fetching.Fits from
  unfolding fetching
  fetching_fits len from is small =
      let own = fetches_of pages len from is in
      let short = own.short in (
        collect_fits pages from few (own.has.inside, own.has.few) (omega (arith, short), small.0),
        is_fetched from short own.has.some,
      )

  served_fits : (k : Which) (s : Stage) → is_work (work.Serve k) pages s ≡ true → IsSmallStage s → stage_format.Fits s
  unfolding stage_format
  served_fits First at.Rest is small = absurd (cc)
  served_fits First (at.Close host) is small = absurd (cc)
  served_fits First (at.Deliver spill len) is small =
      let own = has_of pages (share spill.held spill.to) spill.to is in
      (fits8 2 (omega arith), (refl, (held_fits spill.held small.0, (parts_fit pages spill.to few (own.inside, own.few), fits32 len small.1))))
  served_fits First (at.Event spill) is small = absurd (cc)
  served_fits First (at.Fetch from len) is small = absurd (cc)
  served_fits First (at.Dial h) is small = absurd (cc)
  served_fits First (at.Accept host line) is small = absurd (cc)
  served_fits First (at.Send host sent from) is small = absurd (cc)
  served_fits First (at.Read host from) is small = absurd (cc)
  served_fits Second at.Rest is small = absurd (cc)
  served_fits Second (at.Close host) is small = close_fits host small
  served_fits Second (at.Deliver spill len) is small = absurd (cc)
  served_fits Second (at.Event spill) is small = absurd (cc)
  served_fits Second (at.Fetch from len) is small =
      (fits8 4 (omega arith), (refl, (fetching_fits len from is small, fits64 len small.1)))
  served_fits Second (at.Dial h) is small = (fits8 5 (omega arith), (refl, header_fits h small))
  served_fits Second (at.Accept host line) is small =
      (fits8 6 (omega arith), (refl, (fits32 host small.0, piece_fits line small.1)))
  served_fits Second (at.Send host sent from) is small =
      let own = sends_of pages host sent from is in
      (fits8 7 (omega arith), (refl, (fits32 host small.0, (piece_fits sent small.1, parts_fit pages from few (own.inside, own.few)))))
  served_fits Second (at.Read host from) is small =
      let own = has_of pages (room from) from is in
      (fits8 8 (omega arith), (refl, (fits32 host small, parts_fit pages from few (own.inside, own.few))))
  served_fits Third at.Rest is small = absurd (cc)
  served_fits Third (at.Close host) is small = absurd (cc)
  served_fits Third (at.Deliver spill len) is small = absurd (cc)
  served_fits Third (at.Event spill) is small =
      let own = has_of pages (share spill.held spill.to) spill.to is in
      (fits8 3 (omega arith), (refl, (held_fits spill.held small, parts_fit pages spill.to few (own.inside, own.few))))
  served_fits Third (at.Fetch from len) is small = absurd (cc)
  served_fits Third (at.Dial h) is small = absurd (cc)
  served_fits Third (at.Accept host line) is small = absurd (cc)
  served_fits Third (at.Send host sent from) is small = absurd (cc)
  served_fits Third (at.Read host from) is small = absurd (cc)

  rests_fit : (s : Stage) → is_work work.Rest pages s ≡ true → stage_format.Fits s
  rests_fit at.Rest is = rest_fits
  rests_fit (at.Close host) is = absurd (cc)
  rests_fit (at.Deliver spill len) is = absurd (cc)
  rests_fit (at.Event spill) is = absurd (cc)
  rests_fit (at.Fetch from len) is = absurd (cc)
  rests_fit (at.Dial h) is = absurd (cc)
  rests_fit (at.Accept host line) is = absurd (cc)
  rests_fit (at.Send host sent from) is = absurd (cc)
  rests_fit (at.Read host from) is = absurd (cc)

  answers_fit : (s : Stage) → is_work work.Answer pages s ≡ true → IsSmallStage s → stage_format.Fits s
  answers_fit at.Rest is small = absurd (cc)
  answers_fit (at.Close host) is small = close_fits host small
  answers_fit (at.Deliver spill len) is small = absurd (cc)
  answers_fit (at.Event spill) is small = absurd (cc)
  answers_fit (at.Fetch from len) is small = absurd (cc)
  answers_fit (at.Dial h) is small = absurd (cc)
  answers_fit (at.Accept host line) is small = absurd (cc)
  answers_fit (at.Send host sent from) is small = absurd (cc)
  answers_fit (at.Read host from) is small = absurd (cc)

  stage_fits : (w : Work) (s : Stage) → is_work w pages s ≡ true → IsSmallStage s → stage_format.Fits s
  stage_fits work.Rest s is small = rests_fit s is
  stage_fits work.Answer s is small = answers_fit s is small
  stage_fits (work.Take k) s is small = absurd (no_take pages k s is)
  stage_fits (work.Serve k) s is small = served_fits k s is small

-- ---- all of it

-- a vsock device of a guest of at most 2^20 pages, at a port whose number is a byte
module _ (v : QueueRounds VsockKind) (is : is_state v ≡ true) (gone : is_unconnected v.kind.own ≡ true)
    (few : v.rounds.pages ≤ 2 ^ 20) (port : v.rounds.port < 2 ^ 8) (short : AreShort true v.rounds)
    (narrow : IsNarrowPhase v.phase) (small : IsSmallStage v.kind.stage) (own : IsSizedData true v.kind.own) where
  parts : TestParts vsocks.vsock false is_work v.phase v.rounds v.kind.stage
  parts = facts vsocks.vsock false is_work v.phase v.rounds v.kind.stage is few port short

  pub vsock_fits : vsock.Fits v
  unfolding vsock vsock_fields
  vsock_fits = (
    (
      rounds_fit vsocks.vsock false is_work v.phase v.rounds v.kind.stage is few port short,
      (
        place_fits vsocks.vsock false is_work v.phase v.rounds v.kind.stage is few port short v.phase parts.place narrow,
        (data_fits v.kind.own gone (own refl), stage_fits v.rounds.pages few (work_of v.phase) v.kind.stage parts.works small),
      ),
    ),
    is,
  )
