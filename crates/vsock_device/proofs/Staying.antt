-- The work of a vsock device is where it may be.
use Rattle.std.proofs.Common.{◌≡◌, ℕ, ◌^◌, ◌<◌, ◌≤◌, nat_le, nat_lt, refl, true, not, Some, List, [], length, arith}
use Rattle.std.proofs.lemmas.Bool.{and_from, and_parts, le-leb, lt-ltb}
use Rattle.vq_split.specs.declared.queue.Part.{Part}
use Rattle.vq_split.specs.Kept.{are_inside}
use Rattle.dev_core.specs.declared.collect.Collect.{Collect}
use Rattle.dev_core.specs.Pieces.{past, readable, room, share, writable}
use Rattle.queue_device.specs.declared.lanes.Which.{Which}
use Rattle.queue_device.specs.declared.lanes.Which.TheVariants.{First, Second, Third}
use Rattle.queue_device.specs.declared.phase.Work.TheVariants as work
use Rattle.queue_device.specs.declared.spill.Spill.{Spill}
use Rattle.queue_device.specs.Chains.{Chain}
use Rattle.queue_device.specs.Confined.{is_chain}
use Rattle.queue_device.specs.Kept.{is_fit}
use Rattle.queue_device.proofs.Pieces.{filter_test, past_test}
use Rattle.vsock_packet.specs.declared.header.Header.{Header}
use Rattle.vsock_device.specs.declared.kind.Stage.{Stage}
use Rattle.vsock_device.specs.declared.kind.Stage.TheVariants as stage
use Rattle.vsock_device.specs.Vsock.{vsock}
use Rattle.vsock_device.specs.Work.{are_parts, has_left, is_work}

pub at_rest : (pages : ℕ) (g : Stage) → g ≡ stage.Rest → is_work work.Rest pages g ≡ true
at_rest pages g is = rw is refl

has_more : (pages n : ℕ) (parts : List Part) → 0 < n → length parts ≤ 256 → are_inside pages parts ≡ true
    → has_left pages n parts ≡ true
has_more pages n parts some few inside = and_from _ _ (and_from _ _ (lt-ltb _ _ some) inside) (le-leb _ _ few)

has_inside : (pages n : ℕ) (parts : List Part) → has_left pages n parts ≡ true → are_inside pages parts ≡ true
has_inside pages n parts is =
    (and_parts (nat_lt 0 n) (are_inside pages parts) (and_parts _ (nat_le (length parts) 256) is).0).1

-- ---- to the guest

pub deliver_more : (pages : ℕ) (spill : Spill) (len : ℕ) → 0 < share spill.held spill.to → length spill.to ≤ 256
    → are_inside pages spill.to ≡ true → is_work (work.Serve First) pages (stage.Deliver spill len) ≡ true
deliver_more pages spill len some few inside = has_more pages (share spill.held spill.to) spill.to some few inside

pub event_more : (pages : ℕ) (spill : Spill) → 0 < share spill.held spill.to → length spill.to ≤ 256
    → are_inside pages spill.to ≡ true → is_work (work.Serve Third) pages (stage.Event spill) ≡ true
event_more pages spill some few inside = has_more pages (share spill.held spill.to) spill.to some few inside

pub deliver_inside : (pages : ℕ) (k : Which) (spill : Spill) (len : ℕ)
    → is_work (work.Serve k) pages (stage.Deliver spill len) ≡ true → (k ≡ First) × (are_inside pages spill.to ≡ true)
deliver_inside pages First spill len is = (refl, has_inside pages (share spill.held spill.to) spill.to is)
deliver_inside pages Second spill len is = absurd (cc)
deliver_inside pages Third spill len is = absurd (cc)

pub event_inside : (pages : ℕ) (k : Which) (spill : Spill) → is_work (work.Serve k) pages (stage.Event spill) ≡ true
    → (k ≡ Third) × (are_inside pages spill.to ≡ true)
event_inside pages Third spill is = (refl, has_inside pages (share spill.held spill.to) spill.to is)
event_inside pages First spill is = absurd (cc)
event_inside pages Second spill is = absurd (cc)

pub spill_inside : (pages : ℕ) (spill now : Spill) → pages < 2 ^ 32 → are_inside pages spill.to ≡ true
    → now.to ≡ past (share spill.held spill.to) spill.to → are_inside pages now.to ≡ true
spill_inside pages spill now few inside left =
    rw left (past_test pages (share spill.held spill.to) spill.to few (omega arith) inside)

-- ---- from the guest

pub fetch_more : (pages len : ℕ) (from : Collect) → length from.held < 44 → 0 < room from.from → length from.from ≤ 256
    → are_inside pages from.from ≡ true → is_work (work.Serve Second) pages (stage.Fetch from len) ≡ true
fetch_more pages len from short some few inside =
    and_from _ _ (lt-ltb _ _ short) (has_more pages (room from.from) from.from some few inside)

pub fetch_next : (pages len : ℕ) (k : Which) (from now : Collect) → pages < 2 ^ 32
    → is_work (work.Serve k) pages (stage.Fetch from len) ≡ true → now.from ≡ past (room from.from) from.from
    → (k ≡ Second) × (are_inside pages now.from ≡ true)
fetch_next pages len Second from now few is left =
    let inside = has_inside pages (room from.from) from.from
    (and_parts (nat_lt (length from.held) 44) (has_left pages (room from.from) from.from) is).1 in
    (refl, rw left (past_test pages (room from.from) from.from few (omega arith) inside))
fetch_next pages len First from now few is left = absurd (cc)
fetch_next pages len Third from now few is left = absurd (cc)

pub dial_second : (pages : ℕ) (k : Which) (h : Header) → is_work (work.Serve k) pages (stage.Dial h) ≡ true → k ≡ Second
dial_second pages Second h is = refl
dial_second pages First h is = absurd (cc)
dial_second pages Third h is = absurd (cc)

pub accept_second : (pages host : ℕ) (k : Which) (line : List ℕ) → is_work (work.Serve k) pages (stage.Accept host line) ≡ true
    → k ≡ Second
accept_second pages host Second line is = refl
accept_second pages host First line is = absurd (cc)
accept_second pages host Third line is = absurd (cc)

pub send_more : (pages host : ℕ) (piece : List ℕ) (from : List Part) → 0 < length piece → length from ≤ 256
    → are_inside pages from ≡ true → is_work (work.Serve Second) pages (stage.Send host piece from) ≡ true
send_more pages host piece from some few inside =
    and_from _ _ (lt-ltb _ _ some) (and_from _ _ inside (le-leb _ _ few))

pub send_inside : (pages host : ℕ) (k : Which) (piece : List ℕ) (from : List Part)
    → is_work (work.Serve k) pages (stage.Send host piece from) ≡ true → (k ≡ Second) × (are_inside pages from ≡ true)
send_inside pages host Second piece from is = (
  refl,
  (and_parts (are_inside pages from) (nat_le (length from) 256)
      (and_parts (nat_lt 0 (length piece)) (are_parts pages from) is).1).0,
)
send_inside pages host First piece from is = absurd (cc)
send_inside pages host Third piece from is = absurd (cc)

pub read_more : (pages host : ℕ) (from : List Part) → 0 < room from → length from ≤ 256 → are_inside pages from ≡ true
    → is_work (work.Serve Second) pages (stage.Read host from) ≡ true
read_more pages host from some few inside = has_more pages (room from) from some few inside

pub read_inside : (pages host : ℕ) (k : Which) (from : List Part) → is_work (work.Serve k) pages (stage.Read host from) ≡ true
    → (k ≡ Second) × (are_inside pages from ≡ true)
read_inside pages host Second from is = (refl, has_inside pages (room from) from is)
read_inside pages host First from is = absurd (cc)
read_inside pages host Third from is = absurd (cc)

pub piece_inside : (pages : ℕ) (from now : List Part) → pages < 2 ^ 32 → are_inside pages from ≡ true
    → now ≡ past (room from) from → are_inside pages now ≡ true
piece_inside pages from now few inside left = rw left (past_test pages (room from) from few (omega arith) inside)

-- ---- of a chain

pub taken : (pages : ℕ) (k : Which) (parts : List Part) → are_inside pages parts ≡ true
    → is_fit vsock pages k (Some (record { parts = parts; got = record { bytes = []; parts = [] } })) ≡ true
taken pages k parts inside = and_from _ _ (and_from _ _ inside refl) refl

pub chain_parts : (pages : ℕ) (k : Which) (c : Chain) → is_chain vsock pages k c ≡ true → are_inside pages c.parts ≡ true
chain_parts pages k c is =
    (and_parts _ (are_inside pages c.parts)
    (and_parts _ (are_inside pages c.got.parts) (and_parts _ (vsock.is_taken k c.parts c.got) is).0).0).1

pub chain_writes : (pages : ℕ) (k : Which) (c : Chain) → is_chain vsock pages k c ≡ true
    → are_inside pages (writable c.parts) ≡ true
chain_writes pages k c is = filter_test pages (λ (part : Part). part.writable) c.parts (chain_parts pages k c is)

pub chain_reads : (pages : ℕ) (k : Which) (c : Chain) → is_chain vsock pages k c ≡ true
    → are_inside pages (readable c.parts) ≡ true
chain_reads pages k c is = filter_test pages (λ (part : Part). not part.writable) c.parts (chain_parts pages k c is)
