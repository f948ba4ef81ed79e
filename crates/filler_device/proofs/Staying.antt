-- The work of a filler is where it may be.
use Rattle.std.proofs.Common.{◌≡◌, ℕ, ◌^◌, ◌<◌, ◌≤◌, nat_le, nat_lt, refl, true, not, Some, List, [], length, arith}
use Rattle.std.proofs.lemmas.Bool.{and_from, and_parts, le-leb, lt-ltb}
use Rattle.vq_split.specs.declared.queue.Part.{Part}
use Rattle.vq_split.specs.Kept.{are_inside}
use Rattle.dev_core.specs.declared.collect.Collect.{Collect}
use Rattle.dev_core.specs.Pieces.{past, readable, room, share, writable}
use Rattle.queue_device.specs.declared.lanes.Which.{Which}
use Rattle.queue_device.specs.declared.phase.Work.TheVariants as work
use Rattle.queue_device.specs.declared.spill.Spill.{Spill}
use Rattle.queue_device.specs.Chains.{Chain, got_of}
use Rattle.queue_device.specs.Confined.{is_chain}
use Rattle.queue_device.specs.Kept.{is_fit}
use Rattle.queue_device.proofs.Pieces.{filter_test, past_test}
use Rattle.filler_device.specs.declared.kind.Stage.TheVariants as stage
use Rattle.filler_device.specs.Filler.{filler}
use Rattle.filler_device.specs.Work.{is_work}

-- ---- a byte is read

pub read_done : (pages : ℕ) (k : Which) (from : Collect) → are_inside pages from.from ≡ true
    → is_fit filler pages k (Some (record { parts = []; got = got_of from })) ≡ true
read_done pages k from inside = and_from _ _ (and_from _ _ refl inside) refl

pub read_more : (pages : ℕ) (k : Which) (from : Collect) → (length from.held < 1) × (0 < room from.from)
    → length from.from ≤ 256 → are_inside pages from.from ≡ true → is_work (work.Take k) pages (stage.Take from) ≡ true
read_more pages k from more few inside =
    and_from _ _ (and_from _ _ (and_from _ _ (lt-ltb _ _ more.0) (lt-ltb _ _ more.1)) inside) (le-leb _ _ few)

-- the parts of a stage
pub take_inside : (pages : ℕ) (k : Which) (from : Collect) → is_work (work.Take k) pages (stage.Take from) ≡ true
    → are_inside pages from.from ≡ true
take_inside pages k from is = (and_parts _ (are_inside pages from.from) (and_parts _ (nat_le (length from.from) 256) is).0).1

pub take_next : (pages : ℕ) (k : Which) (from now : Collect) → pages < 2 ^ 32
    → is_work (work.Take k) pages (stage.Take from) ≡ true → now.from ≡ past (room from.from) from.from
    → are_inside pages now.from ≡ true
take_next pages k from now few is left =
    rw left (past_test pages (room from.from) from.from few (omega arith) (take_inside pages k from is))

-- ---- bytes are written

pub fill_more : (pages : ℕ) (k : Which) (spill : Spill) (len : ℕ) → 0 < share spill.held spill.to → length spill.to ≤ 256
    → are_inside pages spill.to ≡ true → is_work (work.Serve k) pages (stage.Fill spill len) ≡ true
fill_more pages k spill len some few inside =
    and_from _ _ (and_from _ _ (lt-ltb _ _ some) inside) (le-leb _ _ few)

pub fill_inside : (pages : ℕ) (k : Which) (spill : Spill) (len : ℕ) → is_work (work.Serve k) pages (stage.Fill spill len) ≡ true
    → are_inside pages spill.to ≡ true
fill_inside pages k spill len is =
    (and_parts (nat_lt 0 (share spill.held spill.to)) (are_inside pages spill.to)
    (and_parts _ (nat_le (length spill.to) 256) is).0).1

pub fill_next : (pages : ℕ) (k : Which) (spill now : Spill) (len : ℕ) → pages < 2 ^ 32
    → is_work (work.Serve k) pages (stage.Fill spill len) ≡ true → now.to ≡ past (share spill.held spill.to) spill.to
    → are_inside pages now.to ≡ true
fill_next pages k spill now len few is left =
    rw left (past_test pages (share spill.held spill.to) spill.to few (omega arith) (fill_inside pages k spill len is))

-- ---- of a chain

pub chain_parts : (pages : ℕ) (k : Which) (c : Chain) → is_chain filler pages k c ≡ true → are_inside pages c.parts ≡ true
chain_parts pages k c is =
    (and_parts _ (are_inside pages c.parts)
    (and_parts _ (are_inside pages c.got.parts) (and_parts _ (filler.is_taken k c.parts c.got) is).0).0).1

pub chain_writes : (pages : ℕ) (k : Which) (c : Chain) → is_chain filler pages k c ≡ true
    → are_inside pages (writable c.parts) ≡ true
chain_writes pages k c is = filter_test pages (λ (part : Part). part.writable) c.parts (chain_parts pages k c is)

pub reads_inside : (pages : ℕ) (parts : List Part) → are_inside pages parts ≡ true → are_inside pages (readable parts) ≡ true
reads_inside pages parts is = filter_test pages (λ (part : Part). not part.writable) parts is
