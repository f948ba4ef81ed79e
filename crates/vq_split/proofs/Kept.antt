-- The test of a walk, and what it tests.
use Rattle.std.proofs.Common.{◌≡◌, ℕ, ◌-◌, ◌+◌, ◌*◌, ◌^◌, ◌==◌, ◌<◌, ◌≤◌, ◌&&◌, nat_le, nat_lt, refl, ap, Bool, true, false, if◌then◌else◌, IfSome, List, [], ◌∷◌, length, arith}
use Rattle.std.proofs.lemmas.Bool.{and_from, and_parts, eqb-true, le-leb, leb-true, lt-ltb, ltb-true}
use Rattle.vq_split.specs.declared.queue.Queue.{Queue}
use Rattle.vq_split.specs.declared.queue.Part.{Part}
use Rattle.vq_split.specs.declared.queue.Table.{Table}
use Rattle.vq_split.specs.declared.walk.Stage.{Stage}
use Rattle.vq_split.specs.declared.walk.Stage.TheVariants.{AvailEvent, Entry, EntryRest, Index, IndexAgain, Link, Ring}
use Rattle.vq_split.specs.Chain.{are_tables, entry_place, event_bytes, event_written, front_length, index_again, is_inside, most_parts}
use Rattle.device_trace.specs.Keeps.{Keeps}
use Rattle.vq_split.specs.Inside.{AreInside, IsInside, WalkInside}
use Rattle.vq_split.specs.Kept.{IsWalking, are_inside, is_entry, is_part, is_sound, is_stage, is_walking}
use Rattle.vq_split.specs.Walking.{IsEntry, IsSound, IsStage, Walking, left_at, look_left, walk_left}
use Rattle.vq_split.proofs.Inside.{Looks, again_looks, descriptors_keep, entries_keep, event_looks, in_ram, linked_keeps, look_then, rest_keeps, ring_keeps, ring_looks, tables_of, walk_keeps}

pub is_eq : (n m : ℕ) → n ≡ m → (n == m) ≡ true
is_eq n m same = grind arith

-- ---- parts

pub inside_of : (pages : ℕ) (parts : List Part) → are_inside pages parts ≡ true → AreInside pages parts
inside_of pages [] is = tt
inside_of pages (part ∷ parts) is =
    let h = and_parts (is_part pages part) (are_inside pages parts) is in
    let p = and_parts (nat_le 1 part.len) (is_inside pages part.at part.len) h.0 in
    (grind (arith, p.0), p.1, inside_of pages parts h.1)

pub are_of : (pages : ℕ) (parts : List Part) → AreInside pages parts → are_inside pages parts ≡ true
are_of pages [] is = refl
are_of pages (part ∷ parts) is =
    let some : nat_le 1 part.len ≡ true = grind (arith, is.0) in
    and_from _ _ (and_from _ _ some is.1) (are_of pages parts is.2)

-- ---- queues

pub sound_of_test : (q : Queue) → q.pages < 2 ^ 32 → is_sound q ≡ true → IsSound q
sound_of_test q few is =
    let h = and_parts (nat_le 1 q.size && nat_le q.size 256) (are_tables q) is in
    let s = and_parts (nat_le 1 q.size) (nat_le q.size 256) h.0 in
    record { some = grind (arith, s.0); most = grind (arith, s.1); tables = tables_of q h.1 few }

event_few : (q : Queue) → event_bytes q ≤ 2
event_few q = by q.accepted.event_index
  where
    by : (has : Bool) → (if has then 2 else 0) ≤ 2
    by true = omega arith
    by false = omega arith

pub test_of_sound : (q : Queue) → IsSound q → is_sound q ≡ true
test_of_sound q is =
    let t = is.tables in
    let some : nat_le 1 q.size ≡ true = grind (arith, is.some) in
    let most : nat_le q.size 256 ≡ true = grind (arith, is.most) in
    let two = event_few q in
    let descriptors : is_inside q.pages q.descriptors (16 * q.size) ≡ true =
    in_ram q.pages q.descriptors (16 * q.size) t.descriptors_in.0 t.descriptors_in.1 (omega (arith, is.most)) in
    let available : is_inside q.pages q.available (4 + 2 * q.size + event_bytes q) ≡ true =
    in_ram q.pages q.available (4 + 2 * q.size + event_bytes q) t.available_in.0 t.available_in.1 (omega (arith, is.most, two)) in
    let used : is_inside q.pages q.used (4 + 8 * q.size + event_bytes q) ≡ true =
    in_ram q.pages q.used (4 + 8 * q.size + event_bytes q) t.used_in.0 t.used_in.1 (omega (arith, is.most, two)) in
    and_from _ _ (and_from _ _ some most)
    (and_from _ _ (and_from _ _ (and_from _ _ (and_from _ _ (and_from _ _ (is_eq _ _ t.aligned.0) descriptors) (is_eq _ _ t.aligned.1)) available)
    (is_eq _ _ t.aligned.2)) used)

-- ---- walks

none_of : (parts : List Part) → (length parts == 0) ≡ true → parts ≡ []
none_of [] is = refl
none_of (part ∷ parts) is = grind arith

entry_of : (q : Queue) (table : Table) (at : ℕ) (parts : List Part) → is_entry q table at parts ≡ true → IsEntry q table at parts
entry_of q table at parts is =
    let p3 = and_parts _ (nat_lt (length parts) most_parts) is in
    let p2 = and_parts _ (is_inside q.pages table.at (16 * table.count)) p3.0 in
    let p1 = and_parts _ (nat_le table.count 256) p2.0 in
    let p0 = and_parts q.accepted.indirect (nat_lt at table.count) p1.0 in
    record { accepted = p0.0; there = ltb-true _ _ p0.1; most = leb-true _ _ p1.1; inside = p2.1; few = ltb-true _ _ p3.1 }

test_of_entry : (q : Queue) (table : Table) (at : ℕ) (parts : List Part) → IsEntry q table at parts → is_entry q table at parts ≡ true
test_of_entry q table at parts is =
    and_from _ _ (and_from _ _ (and_from _ _ (and_from _ _ is.accepted (lt-ltb _ _ is.there)) (le-leb _ _ is.most)) is.inside)
    (lt-ltb _ _ is.few)

stage_of : (stage : Stage) (q : Queue) (parts : List Part) → is_stage stage q parts ≡ true → IsStage stage q parts
stage_of Index q [] is = refl
stage_of Index q (part ∷ parts) is = grind arith
stage_of Ring q [] is = refl
stage_of Ring q (part ∷ parts) is = grind arith
stage_of AvailEvent q parts is =
    let both = and_parts (length parts == 0) q.accepted.event_index is in (none_of parts both.0, both.1)
stage_of IndexAgain q parts is =
    let both = and_parts (length parts == 0) q.accepted.event_index is in (none_of parts both.0, both.1)
stage_of (Entry head table at) q parts is = entry_of q table at parts is
stage_of (EntryRest head table at front) q parts is =
    let p1 = and_parts _ (length front == front_length (entry_place table at)) is in
    let p0 = and_parts (is_entry q table at parts) (nat_lt (front_length (entry_place table at)) 16) p1.0 in
    (entry_of q table at parts p0.0, ltb-true _ _ p0.1, eqb-true _ _ p1.1)
stage_of (Link head at) q parts is =
    let h = and_parts (nat_lt at q.size) (nat_lt (length parts) q.size) is in (grind (arith, h.0), grind (arith, h.1))

test_of_stage : (stage : Stage) (q : Queue) (parts : List Part) → IsStage stage q parts → is_stage stage q parts ≡ true
test_of_stage Index q parts is = rw is refl
test_of_stage Ring q parts is = rw is refl
test_of_stage AvailEvent q parts is = and_from _ _ (ap (λ (xs : List Part). length xs == 0) is.0) is.1
test_of_stage IndexAgain q parts is = and_from _ _ (ap (λ (xs : List Part). length xs == 0) is.0) is.1
test_of_stage (Entry head table at) q parts is = test_of_entry q table at parts is
test_of_stage (EntryRest head table at front) q parts is =
    and_from _ _ (and_from _ _ (test_of_entry q table at parts is.0) (lt-ltb _ _ is.1)) (is_eq _ _ is.2)
test_of_stage (Link head at) q parts is =
    let below : nat_lt at q.size ≡ true = grind (arith, is.0) in
    let fewer : nat_lt (length parts) q.size ≡ true = grind (arith, is.1) in
    and_from _ _ below fewer

pub walking_of : (w : Walking) → w.queue.pages < 2 ^ 32 → is_walking w ≡ true → IsWalking w
walking_of w few is =
    let h = and_parts _ _ is in
    let s = and_parts _ _ h.0 in
    record {
      sound = sound_of_test w.queue few s.0;
      stage = stage_of w.stage w.queue w.parts s.1;
      inside = inside_of w.queue.pages w.parts h.1;
    }

pub test_of_walking : (w : Walking) → IsWalking w → is_walking w ≡ true
test_of_walking w is =
    and_from _ _ (and_from _ _ (test_of_sound w.queue is.sound) (test_of_stage w.stage w.queue w.parts is.stage))
    (are_of w.queue.pages w.parts is.inside)

left_keeps : (stage : Stage) (q : Queue) (next : ℕ) (parts : List Part) → IsSound q → IsStage stage q parts
    → AreInside q.pages parts → Keeps (IsInside q.pages) (WalkInside q.pages) (left_at stage q next parts)
left_keeps Index q next parts sound is inside = walk_keeps q next sound
left_keeps Ring q next parts sound is inside = ring_keeps q next sound
left_keeps AvailEvent q next parts sound is inside = look_then q next (event_written q next) sound (event_looks q next sound is.1)
left_keeps IndexAgain q next parts sound is inside = look_then q next (index_again q) sound (again_looks q sound)
left_keeps (Entry head table at) q next parts sound is inside =
    entries_keep q table is.inside head (most_parts - length parts) at parts is.there inside
left_keeps (EntryRest head table at front) q next parts sound is inside =
    rest_keeps q table is.0.inside at front _ is.0.there (λ d.
    linked_keeps q table is.0.inside head (most_parts - length parts - 1) parts d inside)
left_keeps (Link head at) q next parts sound is inside =
    descriptors_keep q head (q.size - length parts) at parts sound is.0 inside

pub walking_keeps : (w : Walking) → IsWalking w
    → Keeps (IsInside w.queue.pages) (WalkInside w.queue.pages) (walk_left w)
walking_keeps w is = left_keeps w.stage w.queue w.next w.parts is.sound is.stage is.inside

-- and so does what is left of a look at the ring
pub looks_left : (stage : Stage) (q : Queue) (next : ℕ) (parts : List Part) → IsSound q → IsStage stage q parts
    → IfSome (look_left stage q next) (Looks q)
looks_left Index q next parts sound is = ring_looks q next sound
looks_left AvailEvent q next parts sound is = event_looks q next sound is.1
looks_left IndexAgain q next parts sound is = again_looks q sound
looks_left stage q next parts sound is = tt
