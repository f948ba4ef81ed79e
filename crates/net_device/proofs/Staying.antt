-- The work of a network device is where it may be.
use Rattle.std.proofs.Common.{◌≡◌, ℕ, ◌+◌, ◌*◌, ◌==◌, ◌<◌, ◌≤◌, ◌&&◌, nat_le, nat_lt, refl, ap, not, true, Some, List, [], length, drop, arith, ◌^◌}
use Rattle.std.proofs.lemmas.Bool.{and_from, and_parts, le-leb, lt-ltb}
use Rattle.vq_split.specs.declared.queue.Part.{Part}
use Rattle.vq_split.specs.Kept.{are_inside}
use Rattle.vq_split.proofs.Kept.{is_eq}
use Rattle.dev_core.specs.Pieces.{past, readable, room, share, writable}
use Rattle.queue_device.specs.declared.lanes.Which.{Which}
use Rattle.queue_device.specs.declared.lanes.Which.TheVariants.{First, Second, Third}
use Rattle.queue_device.specs.declared.phase.Work.TheVariants as work
use Rattle.queue_device.specs.Chains.{Chain}
use Rattle.queue_device.specs.Confined.{is_chain}
use Rattle.queue_device.specs.Kept.{is_fit}
use Rattle.queue_device.proofs.Pieces.{filter_test, past_test}
use Rattle.net_device.specs.declared.kind.Stage.{Stage}
use Rattle.net_device.specs.declared.kind.Stage.TheVariants as stage
use Rattle.net_device.specs.Frames.{header_size, is_frame, pieces}
use Rattle.net_device.specs.Net.{net}
use Rattle.net_device.specs.Work.{is_clear, is_stage}

clear : (bytes : List ℕ) → bytes ≡ [] → is_clear bytes ≡ true
clear bytes none = is_eq _ _ (ap (λ (l : List ℕ). length l) none)

pub at_rest : (pages : ℕ) (s : Stage) (bytes : List ℕ) → s ≡ stage.Rest → bytes ≡ [] → is_stage work.Rest pages s bytes ≡ true
at_rest pages s bytes is none = rw is (clear bytes none)

-- ---- from the link

pub take_more : (pages size index : ℕ) (bytes : List ℕ) → is_frame size ≡ true → index < pieces size
    → length bytes ≡ header_size + 64 * index → is_stage work.Answer pages (stage.Take size index) bytes ≡ true
take_more pages size index bytes frame some held =
    and_from _ _ (and_from _ _ frame (lt-ltb _ _ some)) (is_eq _ _ held)

pub take_frame : (pages size index : ℕ) (bytes : List ℕ) → is_stage work.Answer pages (stage.Take size index) bytes ≡ true
    → is_frame size ≡ true
take_frame pages size index bytes is =
    (and_parts (is_frame size) (nat_lt index (pieces size)) (and_parts _ (length bytes == header_size + 64 * index) is).0).0

-- ---- to the driver

pub receive_more : (pages at : ℕ) (to : List Part) (bytes : List ℕ) → 0 < share (drop at bytes) to → length to ≤ 256
    → are_inside pages to ≡ true → is_stage (work.Serve First) pages (stage.Receive at to) bytes ≡ true
receive_more pages at to bytes some few inside = and_from _ _ (and_from _ _ (lt-ltb _ _ some) inside) (le-leb _ _ few)

pub receive_inside : (pages at : ℕ) (k : Which) (to : List Part) (bytes : List ℕ)
    → is_stage (work.Serve k) pages (stage.Receive at to) bytes ≡ true → (k ≡ First) × (are_inside pages to ≡ true)
receive_inside pages at First to bytes is = (
  refl,
  (and_parts (nat_lt 0 (share (drop at bytes) to)) (are_inside pages to) (and_parts _ (nat_le (length to) 256) is).0).1,
)
receive_inside pages at Second to bytes is = absurd (cc)
receive_inside pages at Third to bytes is = absurd (cc)

pub receive_next : (pages at n : ℕ) (k : Which) (to now : List Part) (bytes : List ℕ) → pages < 2 ^ 32
    → is_stage (work.Serve k) pages (stage.Receive at to) bytes ≡ true → n ≤ room to → now ≡ past n to
    → (k ≡ First) × (are_inside pages now ≡ true)
receive_next pages at n k to now bytes few is some left =
    let v = receive_inside pages at k to bytes is in (v.0, rw left (past_test pages n to few some v.1))

-- ---- from the driver

pub read_more : (pages skip : ℕ) (from : List Part) (bytes : List ℕ) → 0 < room from → length from ≤ 256
    → are_inside pages from ≡ true → bytes ≡ [] → is_stage (work.Serve Second) pages (stage.Read skip from) bytes ≡ true
read_more pages skip from bytes some few inside none =
    and_from _ _ (and_from _ _ (and_from _ _ (lt-ltb _ _ some) inside) (le-leb _ _ few)) (clear bytes none)

pub end_more : (pages : ℕ) (bytes : List ℕ) → bytes ≡ [] → is_stage (work.Serve Second) pages stage.End bytes ≡ true
end_more pages bytes none = clear bytes none

-- parts are inside, behind a test of how many there are, and that no frame is on its way
parts_inside : (pages n : ℕ) (from : List Part) (bytes : List ℕ)
    → (nat_lt 0 n && are_inside pages from && nat_le (length from) 256 && is_clear bytes) ≡ true → are_inside pages from ≡ true
parts_inside pages n from bytes is =
    let p2 = and_parts _ (is_clear bytes) is in
    let p1 = and_parts _ (nat_le (length from) 256) p2.0 in
    (and_parts (nat_lt 0 n) (are_inside pages from) p1.0).1

pub read_inside : (pages skip : ℕ) (k : Which) (from : List Part) (bytes : List ℕ)
    → is_stage (work.Serve k) pages (stage.Read skip from) bytes ≡ true → (k ≡ Second) × (are_inside pages from ≡ true)
read_inside pages skip Second from bytes is = (refl, parts_inside pages (room from) from bytes is)
read_inside pages skip First from bytes is = absurd (cc)
read_inside pages skip Third from bytes is = absurd (cc)

pub read_next : (pages skip : ℕ) (k : Which) (from now : List Part) (bytes : List ℕ) → pages < 2 ^ 32
    → is_stage (work.Serve k) pages (stage.Read skip from) bytes ≡ true → now ≡ past (room from) from
    → (k ≡ Second) × (are_inside pages now ≡ true)
read_next pages skip k from now bytes few is left =
    let v = read_inside pages skip k from bytes is in (v.0, rw left (past_test pages (room from) from few (omega arith) v.1))

pub send_more : (pages skip : ℕ) (piece : List ℕ) (from : List Part) (bytes : List ℕ) → 0 < length piece
    → length from ≤ 256 → are_inside pages from ≡ true → bytes ≡ []
    → is_stage (work.Serve Second) pages (stage.Send piece skip from) bytes ≡ true
send_more pages skip piece from bytes some few inside none =
    and_from _ _ (and_from _ _ (and_from _ _ (lt-ltb _ _ some) inside) (le-leb _ _ few)) (clear bytes none)

pub send_inside : (pages skip : ℕ) (k : Which) (piece : List ℕ) (from : List Part) (bytes : List ℕ)
    → is_stage (work.Serve k) pages (stage.Send piece skip from) bytes ≡ true
    → (k ≡ Second) × (are_inside pages from ≡ true)
send_inside pages skip Second piece from bytes is = (refl, parts_inside pages (length piece) from bytes is)
send_inside pages skip First piece from bytes is = absurd (cc)
send_inside pages skip Third piece from bytes is = absurd (cc)

-- ---- of a chain

pub taken : (pages : ℕ) (k : Which) (parts : List Part) → are_inside pages parts ≡ true
    → is_fit net pages k (Some (record { parts = parts; got = record { bytes = []; parts = [] } })) ≡ true
taken pages k parts inside = and_from _ _ (and_from _ _ inside refl) refl

pub chain_parts : (pages : ℕ) (k : Which) (c : Chain) → is_chain net pages k c ≡ true → are_inside pages c.parts ≡ true
chain_parts pages k c is =
    (and_parts _ (are_inside pages c.parts)
    (and_parts _ (are_inside pages c.got.parts) (and_parts _ (net.is_taken k c.parts c.got) is).0).0).1

pub chain_writes : (pages : ℕ) (k : Which) (c : Chain) → is_chain net pages k c ≡ true
    → are_inside pages (writable c.parts) ≡ true
chain_writes pages k c is = filter_test pages (λ (part : Part). part.writable) c.parts (chain_parts pages k c is)

pub chain_reads : (pages : ℕ) (k : Which) (c : Chain) → is_chain net pages k c ≡ true
    → are_inside pages (readable c.parts) ≡ true
chain_reads pages k c is = filter_test pages (λ (part : Part). not part.writable) c.parts (chain_parts pages k c is)
