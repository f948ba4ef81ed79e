-- The bytes that a device holds are bytes of its file.
use Rattle.std.proofs.Common.{◌≡◌, ℕ, suc, Bool, true, false, if◌then◌else◌, refl, sym, subst, List, [], ◌∷◌, ◌++◌, length, Option, Some, None}
use Rattle.std.specs.List.{All}
use Rattle.std.specs.Int.{to_le_bytes, w32}
use Rattle.std.proofs.lemmas.List.{take_at}
use Rattle.std.proofs.lemmas.List.Elements.{All-cons, All-nil}
use Rattle.le_fields.specs.Fields.{IsByte}
use Rattle.file_format.specs.Ends.{ended}
use Rattle.file_format.specs.Format.{Format, IsBytes}
use Rattle.file_format.specs.Kinds.{byte, byte_list, flag, number16, number32, number64, optional, ◌&◌}
use Rattle.file_format.specs.Laws.{IsBytes-rest, IsBytes-take}
use Rattle.vm_types.specs.declared.port_look.Accepted.{Accepted}
use Rattle.vq_split.specs.declared.queue.Queue.{Queue}
use Rattle.vq_split.specs.declared.walk.Stage as walk_stages
use Rattle.vq_split.specs.declared.walk.Stage.TheVariants as walk_at
use Rattle.vq_split.specs.Walking.{Walking, walk_of}
use Rattle.dev_core.specs.declared.collect.Collect.{Collect}
use Rattle.dev_core.specs.Looks.{no_queue}
use Rattle.queue_device.specs.declared.device.QueueRounds.{QueueRounds}
use Rattle.queue_device.specs.declared.lanes.Lane.{Lane}
use Rattle.queue_device.specs.declared.lanes.Rounds.{Rounds}
use Rattle.queue_device.specs.declared.lanes.Which.{Which}
use Rattle.queue_device.specs.declared.phase.Phase as at_phase
use Rattle.queue_device.specs.declared.phase.Phase.TheVariants as phase_at
use Rattle.queue_device.specs.Chains.{Chain}
use Rattle.block_device.specs.declared.kind.BlockKind.{BlockKind}
use Rattle.net_device.specs.declared.kind.Stage as net
use Rattle.net_device.specs.declared.kind.Stage.TheVariants as net_at
use Rattle.net_device.specs.Work as net_work
use Rattle.snap_devices.specs.Nets as nets
use Rattle.vsock_device.specs.declared.data.InHand.{InHand}
use Rattle.vsock_device.specs.declared.data.InHand.TheVariants as hand
use Rattle.vsock_device.specs.declared.kind.Stage as vsock
use Rattle.vsock_device.specs.declared.kind.Stage.TheVariants as vsock_at
use Rattle.vsock_device.specs.declared.kind.VsockKind.{VsockKind}
use Rattle.snap_devices.specs.Vsocks as vsocks
use Rattle.balloon_device.specs.declared.kind.Stage.{Stage}
use Rattle.balloon_device.specs.declared.kind.Stage.TheVariants as at
use Rattle.balloon_device.specs.Work.{Kept}
use Rattle.entropy_device.specs.declared.kind.Stage as entropy_stages
use Rattle.entropy_device.specs.declared.kind.Stage.TheVariants as entropy_at
use Rattle.entropy_device.specs.Work as entropy_work
use Rattle.snap_devices.specs.Entropies as entropies
use Rattle.guest_devices.specs.declared.device.Device.{Device}
use Rattle.guest_devices.specs.declared.device.Device.TheVariants as kept
use Rattle.snap_devices.specs.declared.file.FileBlock.{FileBlock}
use Rattle.snap_devices.specs.declared.file.FileMore.{FileMore}
use Rattle.snap_devices.specs.declared.file.FilePhase.{FilePhase}
use Rattle.snap_devices.specs.declared.file.FilePhase.TheVariants.{Between, Break, Header, Serve, Return}
use Rattle.snap_devices.specs.Balloons.{balloon, balloon_fields, kind, kind_fields, stage as stage_format, statistics}
use Rattle.snap_devices.specs.Blocks.{block, block_data, block_fields}
use Rattle.snap_devices.specs.Devices.{device}
use Rattle.snap_devices.specs.Forms.{block_filed, hand_kept, more_filed, phase_kept}
use Rattle.snap_devices.specs.Limits.{chain, chain_fields, chain_marks, end_of_device, is_no_more, limits, maybe_chain, more, no_chain}
use Rattle.snap_devices.specs.Marks.{accepted_code, at_code, at_queue, marked, marked_by, maybe, maybe_by, of_queue, queue_code, which_at, which_at-is, which_code}
use Rattle.snap_devices.specs.Phases.{phase}
use Rattle.snap_devices.specs.Places.{place, walked, walked_by, walked_marks}
use Rattle.snap_devices.specs.Queues.{collect, held, maybe_queue, maybe_walk, parts, piece, queue, table, walk, walk_fields, walk_marks, walk_stage}
use Rattle.snap_devices.specs.Rounds.{lane, next_due, rounds}
use Rattle.snap_devices.proofs.BalloonNarrow.{HoldsBalloon, HoldsStage}
use Rattle.snap_devices.proofs.DeviceNarrow.{HoldsBytes}
use Rattle.snap_devices.proofs.EntropyNarrow.{HoldsEntropy, HoldsWord}
use Rattle.snap_devices.proofs.RoundsNarrow.{AreAllHeld}
use Rattle.snap_devices.proofs.NetNarrow.{HoldsNet, HoldsPiece}
use Rattle.snap_devices.proofs.VsockNarrow.{HoldsAct, HoldsPacket, HoldsVsock}
use Rattle.snap_devices.proofs.Narrow.{AreHeld, HoldsBlock, HoldsFront, HoldsPhase}

pub front : (a b : List ℕ) → IsBytes (a ++ b) → IsBytes a
front a b is = subst IsBytes (take_at a b (length a) refl) (IsBytes-take (length a) (a ++ b) is)

pub behind : (a b : List ℕ) → IsBytes (a ++ b) → IsBytes b
behind a b is = IsBytes-rest (a ++ b) a b refl is

pub all_of : (xs : List ℕ) → IsBytes xs → All IsByte xs
all_of [] is = All-nil IsByte
all_of (x ∷ xs) is = All-cons IsByte x xs (is 0) (all_of xs (λ i. is (suc i)))

-- ---- what stands behind what says which features were accepted

module _ {X : Type 0} (of : Accepted → Format X) (marks : X → Accepted) (other : X)
    (is : (a : Accepted) (x : X) → (of a).Fits x → a ≡ marks x) where
  maybe_bytes : (x : X) → IsBytes ((maybe of marks other is).bytes (Some x)) → IsBytes ((of (marks x)).bytes x)
  unfolding maybe
  maybe_bytes x own =
      subst (λ (o : Option Accepted). IsBytes ((maybe_by of marks other is o).bytes (Some x))) (at_code (marks x))
      (behind (byte.bytes (suc (accepted_code (marks x)))) _ own)

module _ {X : Type 0} (of : Which → Accepted → Format X) (key : X → Which) (marks : X → Accepted)
    (is : (k : Which) (a : Accepted) (x : X) → (of k a).Fits x → (k ≡ key x) × (a ≡ marks x)) where
  numbered_bytes : (x : X) → IsBytes ((of_queue of key marks is).bytes x) → IsBytes ((of (key x) (marks x)).bytes x)
  unfolding marked
  numbered_bytes x own =
      subst (λ (o : Option (Which × Accepted)). IsBytes ((marked_by which_code which_at which_at-is of key marks is o).bytes x))
      (at_queue (key x) (marks x)) (behind (byte.bytes (queue_code (key x) (marks x))) _ own)

-- ---- bytes that are held, and a chain that waits

bytes_held : (bytes : List ℕ) → IsBytes (held.bytes bytes) → All IsByte bytes
unfolding held byte_list
bytes_held bytes is = all_of bytes (behind (to_le_bytes w32 (length bytes)) bytes is)

collect_held : (c : Collect) → IsBytes (collect.bytes c) → All IsByte c.held
unfolding collect
collect_held c is = bytes_held c.held (behind (parts.bytes c.from) (held.bytes c.held) is)

chain_held : (a : Accepted) (c : Chain) → IsBytes ((chain a).bytes c) → All IsByte c.got.bytes
unfolding chain chain_fields
chain_held a c is =
    let b = behind ((queue a).bytes c.queue) _ is in
    let d = behind (number16.bytes c.head) _ b in
    let e = behind (parts.bytes c.parts) _ d in
    bytes_held c.got.bytes (behind (parts.bytes c.got.parts) _ e)

waiting_held : (o : Option Chain) → IsBytes (maybe_chain.bytes o) → AreHeld o
unfolding maybe_chain
waiting_held None is = tt
waiting_held (Some c) is =
    chain_held c.queue.accepted c (maybe_bytes chain (λ c. c.queue.accepted) no_chain chain_marks c is)

piece_held : (bytes : List ℕ) → IsBytes (piece.bytes bytes) → All IsByte bytes
unfolding piece byte_list
piece_held bytes is = all_of bytes (behind (to_le_bytes w32 (length bytes)) bytes is)

-- ---- what was read of an entry

read_held : (s : walk_stages.Stage) → IsBytes (walk_stage.bytes s) → HoldsFront s
unfolding walk_stage
read_held walk_at.Index is = tt
read_held walk_at.Ring is = tt
read_held (walk_at.Link head at) is = tt
read_held walk_at.AvailEvent is = tt
read_held walk_at.IndexAgain is = tt
read_held (walk_at.Entry head t at) is = tt
read_held (walk_at.EntryRest head t at read) is =
    let a = behind (byte.bytes 6) _ is in
    let b = behind (number16.bytes head) _ a in
    let c = behind (table.bytes t) _ b in
    piece_held read (behind (number16.bytes at) _ c)

walk_held : (a : Accepted) (w : Walking) → IsBytes ((walk a).bytes w) → HoldsFront w.stage
unfolding walk walk_fields
walk_held a w is =
    let b = behind ((queue a).bytes w.queue) _ is in
    let c = behind (number16.bytes w.next) _ b in
    read_held w.stage (front (walk_stage.bytes w.stage) _ c)

place_held : (p : at_phase.Phase) → IsBytes (place.bytes p) → HoldsPhase p
unfolding place walked walked_by
place_held phase_at.Between is = tt
place_held phase_at.Question is = tt
place_held (phase_at.Walk k w) is =
    let a = behind (byte.bytes 2) _ is in
    walk_held w.queue.accepted w (numbered_bytes walked_by (λ v. v.0) (λ v. v.1.queue.accepted) walked_marks (k, w) a)
place_held (phase_at.Take c) is = tt
place_held (phase_at.Serve c) is = tt
place_held (phase_at.Return c len stage) is = tt
place_held (phase_at.Break k stage) is = tt

-- ---- a block device

form_held : (f : FileBlock) → IsBytes (block_fields.bytes f) → All IsByte f.from.held
unfolding block_fields
form_held f is =
    let a = behind (block_data.bytes f.facts) _ is in
    let b = behind (phase.bytes f.phase) _ a in
    let c = behind (maybe_walk.bytes f.walk) _ b in
    collect_held f.from (front (collect.bytes f.from) (parts.bytes f.to) c)

phase_held : (o : Option Walking) (p : FilePhase) (q : Queue) → IsBytes (maybe_walk.bytes o) → HoldsPhase (phase_kept o p q)
unfolding maybe_walk
phase_held (Some w) p q is =
    walk_held w.queue.accepted w (maybe_bytes walk (λ w. w.queue.accepted) (walk_of (no_queue 0) 0) walk_marks w is)
phase_held None Between q is = tt
phase_held None (Break s) q is = tt
phase_held None (Header len head) q is = tt
phase_held None (Serve place s head) q is = tt
phase_held None (Return len head s) q is = tt

begun_held : (f : FileBlock) (q : Queue) → IsBytes (block_fields.bytes f) → HoldsPhase (phase_kept f.walk f.phase q)
unfolding block_fields
begun_held f q is =
    let a = behind (block_data.bytes f.facts) _ is in
    let b = behind (phase.bytes f.phase) _ a in
    phase_held f.walk f.phase q (front (maybe_walk.bytes f.walk) _ b)

more_held : (m : FileMore) → IsBytes (more.bytes m) → AreHeld m.waiting
unfolding more
more_held m is =
    let a = behind (limits.bytes m.limits) _ is in
    waiting_held m.waiting (front (maybe_chain.bytes m.waiting) (maybe_queue.bytes m.in_hand) a)

end_by : (test : Bool) (m : FileMore) → is_no_more m ≡ test → IsBytes (if test then [] else more.bytes m) → AreHeld m.waiting
end_by true m none is =
    subst (λ (x : FileMore). AreHeld x.waiting) (sym (end_of_device.only_none m none)) tt
end_by false m none is = more_held m is

block_held : (b : QueueRounds BlockKind) → IsBytes (block.bytes b) → HoldsBlock b
unfolding block ended
block_held b is =
    let f : FileBlock = block_filed b in
    let m : FileMore = more_filed b in
    let own = front (block_fields.bytes f) _ is in (
      form_held f own,
      end_by (is_no_more m) m refl (behind (block_fields.bytes f) _ is),
      begun_held f (hand_kept m.in_hand f.facts.queue) own,
    )

-- ---- a balloon

lane_held : (l : Lane) → IsBytes (lane.bytes l) → AreHeld l.waiting
unfolding lane
lane_held l is =
    let a = behind ((number16 & number16 & flag).bytes (l.next, (l.used, l.is_kicked))) _ is in
    waiting_held l.waiting (behind (maybe_queue.bytes l.queue) _ a)

rounds_held : (r : Rounds) → IsBytes (rounds.bytes r) → AreAllHeld r
unfolding rounds
rounds_held r is =
    let a = behind ((number32 & byte & next_due & flag).bytes (r.pages, (r.port, (r.due, r.is_busy)))) _ is in
    let b = behind (lane.bytes r.first) _ a in (
      lane_held r.first (front (lane.bytes r.first) _ a),
      lane_held r.second (front (lane.bytes r.second) _ b),
      lane_held r.third (behind (lane.bytes r.second) _ b),
    )

stage_held : (s : Stage) → IsBytes (stage_format.bytes s) → HoldsStage s
unfolding stage_format
stage_held at.Rest is = tt
stage_held (at.List list pages) is =
    let a = behind (byte.bytes 1) _ is in
    collect_held list (behind (number32.bytes pages) _ a)
stage_held (at.Zeros list pages left address) is =
    let a = behind (byte.bytes 2) _ is in
    let b = behind (number32.bytes pages) _ a in
    let c = behind (number32.bytes left) _ b in
    collect_held list (behind (number64.bytes address) _ c)
stage_held (at.Tags from s) is =
    let a = behind (byte.bytes 3) _ is in
    collect_held from (behind (statistics.bytes s) _ a)

balloon_held : (b : QueueRounds Kept) → IsBytes (balloon.bytes b) → HoldsBalloon b
unfolding balloon balloon_fields kind kind_fields
balloon_held b is =
    let a = behind (rounds.bytes b.rounds) _ is in
    let c = behind (place.bytes b.phase) _ a in
    let d = behind (number16.bytes b.kind.own.interval) _ c in
    let e = behind (number64.bytes b.kind.own.last) _ d in
    (stage_held b.kind.stage (behind (statistics.bytes b.kind.own.statistics) _ e), rounds_held b.rounds (front (rounds.bytes b.rounds) _ is), place_held b.phase (front (place.bytes b.phase) _ a))

-- ---- an entropy device

word_held : (s : entropy_stages.Stage) → IsBytes (entropies.stage.bytes s) → HoldsWord s
unfolding entropies.stage
word_held entropy_at.Rest is = tt
word_held (entropy_at.Draw len index to) is = tt
word_held (entropy_at.Write len index spill) is =
    let a = behind (byte.bytes 2) _ is in
    let b = behind (number32.bytes len) _ a in
    let c = behind (number32.bytes index) _ b in
    bytes_held spill.held (behind (parts.bytes spill.to) (held.bytes spill.held) c)

entropy_held : (e : QueueRounds entropy_work.Kept) → IsBytes (entropies.entropy.bytes e) → HoldsEntropy e
unfolding entropies.entropy entropies.entropy_fields entropies.kind entropies.kind_fields
entropy_held e is =
    let a = behind (rounds.bytes e.rounds) _ is in
    let c = behind (place.bytes e.phase) _ a in
    (word_held e.kind.stage (behind (limits.bytes e.kind.own.limits) _ c), rounds_held e.rounds (front (rounds.bytes e.rounds) _ is), place_held e.phase (front (place.bytes e.phase) _ a))

-- ---- a network device

text_held : (bytes : List ℕ) → IsBytes (nets.text.bytes bytes) → All IsByte bytes
unfolding nets.text byte_list
text_held bytes is = all_of bytes (behind (to_le_bytes w32 (length bytes)) bytes is)

sent_held : (s : net.Stage) → IsBytes (nets.stage.bytes s) → HoldsPiece s
unfolding nets.stage
sent_held net_at.Rest is = tt
sent_held (net_at.Take size index) is = tt
sent_held (net_at.Receive from to) is = tt
sent_held (net_at.Read skip from) is = tt
sent_held (net_at.Send sent skip from) is =
    let a = behind (byte.bytes 4) _ is in
    piece_held sent (front (piece.bytes sent) _ a)
sent_held net_at.End is = tt

net_held : (n : QueueRounds net_work.Kept) → IsBytes (nets.net.bytes n) → HoldsNet n
unfolding nets.net nets.net_fields nets.kind nets.kind_fields
net_held n is =
    let a = behind (rounds.bytes n.rounds) _ is in
    let b = behind (place.bytes n.phase) _ a in
    let c = behind (nets.text.bytes n.kind.own.text) _ b in
    let d = behind (limits.bytes n.kind.own.rx) _ c in
    let e = behind (limits.bytes n.kind.own.tx) _ d in (
      text_held n.kind.own.text (front (nets.text.bytes n.kind.own.text) _ b),
      sent_held n.kind.doing.stage (front (nets.stage.bytes n.kind.doing.stage) _ e),
      text_held n.kind.doing.bytes (behind (nets.stage.bytes n.kind.doing.stage) _ e),
      rounds_held n.rounds (front (rounds.bytes n.rounds) _ is),
      place_held n.phase (front (place.bytes n.phase) _ a),
    )

-- ---- a vsock device

vsock_piece_held : (h : InHand) → IsBytes (vsocks.in_hand.bytes h) → HoldsPacket h
unfolding vsocks.in_hand vsocks.packet
vsock_piece_held hand.Free is = tt
vsock_piece_held (hand.Receives p) is =
    let a = behind (byte.bytes 1) _ is in
    piece_held p.bytes (behind (vsocks.head.bytes p.head) _ a)
vsock_piece_held hand.Unjudged is = tt
vsock_piece_held hand.Orphaned is = tt
vsock_piece_held (hand.Judged refusal) is = tt

fetching_held : (from : Collect) → IsBytes (vsocks.fetching.bytes from) → All IsByte from.held
unfolding vsocks.fetching
fetching_held from is = collect_held from is

act_held : (s : vsock.Stage) → IsBytes (vsocks.stage.bytes s) → HoldsAct s
unfolding vsocks.stage
act_held vsock_at.Rest is = tt
act_held (vsock_at.Close host) is = tt
act_held (vsock_at.Deliver spill len) is =
    let a = behind (byte.bytes 2) _ is in
    bytes_held spill.held (front (held.bytes spill.held) _ a)
act_held (vsock_at.Event spill) is =
    let a = behind (byte.bytes 3) _ is in
    bytes_held spill.held (front (held.bytes spill.held) _ a)
act_held (vsock_at.Fetch from len) is =
    let a = behind (byte.bytes 4) _ is in
    fetching_held from (front (vsocks.fetching.bytes from) _ a)
act_held (vsock_at.Dial h) is = tt
act_held (vsock_at.Accept host line) is =
    let a = behind (byte.bytes 6) _ is in
    piece_held line (behind (number32.bytes host) _ a)
act_held (vsock_at.Send host sent from) is =
    let a = behind (byte.bytes 7) _ is in
    let b = behind (number32.bytes host) _ a in
    piece_held sent (front (piece.bytes sent) _ b)
act_held (vsock_at.Read host from) is = tt

vsock_held : (v : QueueRounds VsockKind) → IsBytes (vsocks.vsock.bytes v) → HoldsVsock v
unfolding vsocks.vsock vsocks.vsock_fields vsocks.vsock_data
vsock_held v is =
    let a = behind (rounds.bytes v.rounds) _ is in
    let b = behind (place.bytes v.phase) _ a in
    let own = front (vsocks.vsock_data.bytes v.kind.own) (vsocks.stage.bytes v.kind.stage) b in
    let c = behind (number64.bytes v.kind.own.guest_cid) _ own in
    let d = behind (number32.bytes v.kind.own.next_port) _ c in
    let e = behind ((optional vsocks.head).bytes v.kind.own.answer) _ d in (
      vsock_piece_held v.kind.own.in_hand (front (vsocks.in_hand.bytes v.kind.own.in_hand) _ e),
      act_held v.kind.stage (behind (vsocks.vsock_data.bytes v.kind.own) _ b),
      rounds_held v.rounds (front (rounds.bytes v.rounds) _ is),
      place_held v.phase (front (place.bytes v.phase) _ a),
    )

pub device_held : (d : Device) → IsBytes (device.bytes d) → HoldsBytes d
unfolding device
device_held (kept.Block b) is = block_held b (behind (byte.bytes 1) (block.bytes b) is)
device_held (kept.Net n) is = net_held n (behind (byte.bytes 0) (nets.net.bytes n) is)
device_held (kept.Vsock v) is = vsock_held v (behind (byte.bytes 3) (vsocks.vsock.bytes v) is)
device_held (kept.Balloon b) is = balloon_held b (behind (byte.bytes 2) (balloon.bytes b) is)
device_held (kept.Entropy e) is = entropy_held e (behind (byte.bytes 4) (entropies.entropy.bytes e) is)
