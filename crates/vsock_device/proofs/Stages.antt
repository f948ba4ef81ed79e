-- The stages that a vsock device may be in, by what is so in them.
use Rattle.std.proofs.Common.{◌≡◌, ℕ, ◌<◌, ◌≤◌, nat_le, nat_lt, refl, true, List, length}
use Rattle.std.proofs.lemmas.Bool.{and_from, and_parts, le-leb, leb-true, lt-ltb, ltb-true}
use Rattle.vq_split.specs.declared.queue.Part.{Part}
use Rattle.vq_split.specs.Inside.{AreInside}
use Rattle.vq_split.specs.Kept.{are_inside}
use Rattle.vq_split.proofs.Kept.{are_of, inside_of}
use Rattle.dev_core.specs.declared.collect.Collect.{Collect}
use Rattle.dev_core.specs.Pieces.{room}
use Rattle.queue_device.specs.declared.lanes.Which.{Which}
use Rattle.queue_device.specs.declared.lanes.Which.TheVariants.{Second}
use Rattle.queue_device.specs.declared.phase.Work.TheVariants as work
use Rattle.vsock_device.specs.declared.kind.Stage.{Stage}
use Rattle.vsock_device.specs.declared.kind.Stage.TheVariants as stage
use Rattle.vsock_device.specs.Work.{are_parts, has_left, is_work}

-- so many bytes are left to do, at parts inside RAM
pub record Has (pages n : ℕ) (parts : List Part) : Type 0 where
  pub some : 0 < n
  pub inside : AreInside pages parts
  pub few : length parts ≤ 256

pub has_of : (pages n : ℕ) (parts : List Part) → has_left pages n parts ≡ true → Has pages n parts
has_of pages n parts is =
    let p1 = and_parts _ (nat_le (length parts) 256) is in
    let p0 = and_parts (nat_lt 0 n) (are_inside pages parts) p1.0 in
    record { some = ltb-true _ _ p0.0; inside = inside_of pages parts p0.1; few = leb-true _ _ p1.1 }

pub test_of_has : (pages n : ℕ) (parts : List Part) → Has pages n parts → has_left pages n parts ≡ true
test_of_has pages n parts is =
    and_from _ _ (and_from _ _ (lt-ltb _ _ is.some) (are_of pages parts is.inside)) (le-leb _ _ is.few)

-- parts inside RAM
pub parts_of : (pages : ℕ) (parts : List Part) → are_parts pages parts ≡ true → AreInside pages parts × (length parts ≤ 256)
parts_of pages parts is =
    let p = and_parts (are_inside pages parts) (nat_le (length parts) 256) is in
    (inside_of pages parts p.0, leb-true _ _ p.1)

pub test_of_parts : (pages : ℕ) (parts : List Part) → AreInside pages parts → length parts ≤ 256 → are_parts pages parts ≡ true
test_of_parts pages parts inside few = and_from _ _ (are_of pages parts inside) (le-leb _ _ few)

-- a header that isn't whole
pub record Fetches (pages : ℕ) (from : Collect) : Type 0 where
  pub short : length from.held < 44
  pub has : Has pages (room from.from) from.from

pub fetches_of : (pages len : ℕ) (from : Collect) → is_work (work.Serve Second) pages (stage.Fetch from len) ≡ true → Fetches pages from
fetches_of pages len from is =
    let p = and_parts (nat_lt (length from.held) 44) (has_left pages (room from.from) from.from) is in
    record { short = ltb-true _ _ p.0; has = has_of pages (room from.from) from.from p.1 }

pub test_of_fetches : (pages len : ℕ) (from : Collect) → Fetches pages from
    → is_work (work.Serve Second) pages (stage.Fetch from len) ≡ true
test_of_fetches pages len from is =
    and_from _ _ (lt-ltb _ _ is.short) (test_of_has pages (room from.from) from.from is.has)

-- a piece that goes on
pub record Sends (pages : ℕ) (piece : List ℕ) (from : List Part) : Type 0 where
  pub some : 0 < length piece
  pub inside : AreInside pages from
  pub few : length from ≤ 256

pub sends_of : (pages host : ℕ) (piece : List ℕ) (from : List Part)
    → is_work (work.Serve Second) pages (stage.Send host piece from) ≡ true → Sends pages piece from
sends_of pages host piece from is =
    let p = and_parts (nat_lt 0 (length piece)) (are_parts pages from) is in
    let q = parts_of pages from p.1 in
    record { some = ltb-true _ _ p.0; inside = q.0; few = q.1 }

pub test_of_sends : (pages host : ℕ) (piece : List ℕ) (from : List Part) → Sends pages piece from
    → is_work (work.Serve Second) pages (stage.Send host piece from) ≡ true
test_of_sends pages host piece from is =
    and_from _ _ (lt-ltb _ _ is.some) (test_of_parts pages from is.inside is.few)

-- ---- no other stage

pub no_answer : (pages : ℕ) (g : Stage) → is_work work.Answer pages g ≡ true → (host : ℕ) × (g ≡ stage.Close host)
no_answer pages (stage.Close host) is = (host, refl)
no_answer pages stage.Rest is = absurd (cc)
no_answer pages (stage.Deliver spill len) is = absurd (cc)
no_answer pages (stage.Event spill) is = absurd (cc)
no_answer pages (stage.Fetch from len) is = absurd (cc)
no_answer pages (stage.Dial header) is = absurd (cc)
no_answer pages (stage.Accept host line) is = absurd (cc)
no_answer pages (stage.Send host piece from) is = absurd (cc)
no_answer pages (stage.Read host from) is = absurd (cc)

pub no_take : (pages : ℕ) (k : Which) (g : Stage) → is_work (work.Take k) pages g ≡ true → ⊥
no_take pages k stage.Rest is = cc
no_take pages k (stage.Close host) is = cc
no_take pages k (stage.Deliver spill len) is = cc
no_take pages k (stage.Event spill) is = cc
no_take pages k (stage.Fetch from len) is = cc
no_take pages k (stage.Dial header) is = cc
no_take pages k (stage.Accept host line) is = cc
no_take pages k (stage.Send host piece from) is = cc
no_take pages k (stage.Read host from) is = cc
