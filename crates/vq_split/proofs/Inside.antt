-- What the walk of a sound queue's chain touches.
use Rattle.std.proofs.Common.{◌≡◌, ℕ, zero, suc, ◌+◌, ◌-◌, ◌*◌, ◌%◌, ◌^◌, ◌==◌, ◌<◌, ◌≤◌, ◌/◌, ◌&&◌, ◌||◌, not, nat_le, nat_lt, refl, sym, ap, subst, Bool, true, false, if◌then◌else◌, List, [], ◌∷◌, ◌++◌, length, length-append, arith, Option, Some, None}
use Rattle.std.proofs.lemmas.Bool.{and_parts, eqb-true, ltb-true, not-false, or_parts}
use Rattle.vm_types.specs.declared.op.Op.{Op}
use Rattle.guest_memory.specs.Ram.{is_ram, page_size}
use Rattle.vq_split.specs.declared.queue.Queue.{Queue}
use Rattle.vq_split.specs.declared.queue.Part.{Part}
use Rattle.vq_split.specs.declared.queue.Table.{Table}
use Rattle.vq_split.specs.declared.queue.Why.{Why}
use Rattle.vq_split.specs.declared.queue.Why.TheVariants as why
use Rattle.device_trace.specs.Doing.{Doing, Gives, and_then}
use Rattle.device_trace.specs.Keeps.{Keeps}
use Rattle.device_trace.proofs.Keeping.{keeps_if, keeps_then}
use Rattle.le_fields.specs.Fields.{field_at}
use Rattle.vq_split.specs.declared.walk.Walk.{Walk}
use Rattle.vq_split.specs.declared.walk.Walk.TheVariants.{Broken, Chain}
use Rattle.vq_split.specs.declared.descriptor.Descriptor.{Descriptor}
use Rattle.vq_split.specs.Chain.{are_tables, avail_event, chain_walk, descriptor_flaw, descriptor_of, descriptors, entries, entry_begun, entry_flaw, entry_linked, entry_place, entry_read, entry_rest}
use Rattle.vq_split.specs.Chain.{event_bytes, event_written, followed, front_length, has_next, headed_by, index_again, index_in, indexed_by, is_indirect, is_inside, is_size, is_writable}
use Rattle.vq_split.specs.Chain.{most_parts, part_flaw, queue_flaw, queue_look, read_bytes, ring_entry, table_flaw, table_of, unless_flawed, with_part}
use Rattle.vq_split.specs.Walking.{AreTables, IsEntry, IsSound}
use Rattle.vq_split.specs.Inside.{IsInside, AreInside, WalkInside}

pub in_ram : (pages at len : ℕ) → 0x80000000 ≤ at → at + len ≤ 0x80000000 + 4096 * pages
    → len < 0x1_0000_0000 → is_inside pages at len ≡ true
in_ram pages at len low high small = grind arith

pub of_ram : (pages at len : ℕ) → is_inside pages at len ≡ true
    → (0x80000000 ≤ at) × (at + len ≤ 0x80000000 + 4096 * pages)
of_ram pages at len is = (grind arith, grind arith)

pub of_len : (pages at len : ℕ) → is_inside pages at len ≡ true → len < 0x1_0000_0000
of_len pages at len is = ltb-true len 0x1_0000_0000 (and_parts (is_ram (page_size * pages) at len) (nat_lt len 0x1_0000_0000) is).1

-- what a part without a flaw has, in a chain of so many at most
pub record IsPart (q : Queue) (most : ℕ) (parts : List Part) (d : Descriptor) : Type 0 where
  pub some : 0 < d.len
  pub inside : is_inside q.pages d.at d.len ≡ true
  pub room : has_next d ≡ true → length parts + 1 < most

part_by : (q : Queue) (most : ℕ) (parts : List Part) (d : Descriptor) (none outside order long : Bool) → none ≡ (d.len == 0)
    → outside ≡ not (is_inside q.pages d.at d.len) → long ≡ (has_next d && nat_le most (length parts + 1))
    → (if none then Some why.Length else if outside then Some why.Outside else if order then Some why.Order
    else if long then Some why.Long else None) ≡ None → IsPart q most parts d
part_by q most parts d true outside order long a b c is = absurd (cc)
part_by q most parts d false true order long a b c is = absurd (cc)
part_by q most parts d false false true long a b c is = absurd (cc)
part_by q most parts d false false false true a b c is = absurd (cc)
part_by q most parts d false false false false a b c is =
    record { some = grind arith; inside = grind arith; room = λ more. grind arith }

pub part_fine : (q : Queue) (most : ℕ) (parts : List Part) (d : Descriptor) → part_flaw q most parts d ≡ None → IsPart q most parts d
part_fine q most parts d is = part_by q most parts d _ _ _ _ refl refl refl is

-- what one has that names a table
pub record IsNaming (q : Queue) (d : Descriptor) : Type 0 where
  pub accepted : q.accepted.indirect ≡ true
  pub some : 0 < d.len
  pub whole : d.len % 16 ≡ 0
  pub most : d.len ≤ 4096
  pub inside : is_inside q.pages d.at d.len ≡ true

table_by : (q : Queue) (d : Descriptor) (off wrong outside : Bool) → off ≡ (not q.accepted.indirect || has_next d)
    → wrong ≡ ((d.len == 0) || not (d.len % 16 == 0) || nat_lt 4096 d.len) → outside ≡ not (is_inside q.pages d.at d.len)
    → (if off then Some why.Indirect else if wrong then Some why.TableLength else if outside then Some why.TableOutside else None) ≡ None
    → IsNaming q d
table_by q d true wrong outside a b c is = absurd (cc)
table_by q d false true outside a b c is = absurd (cc)
table_by q d false false true a b c is = absurd (cc)
table_by q d false false false a b c is =
    let taken = (or_parts (not q.accepted.indirect) (has_next d) (sym a)).0 in
    record {
      accepted = not-false q.accepted.indirect taken;
      some = grind arith;
      whole = grind arith;
      most = grind arith;
      inside = grind arith;
    }

-- ---- in the queue's own table

plain_by : (q : Queue) (parts : List Part) (d : Descriptor) (wrong indirect : Bool)
    → wrong ≡ (has_next d && nat_le q.size d.next) → indirect ≡ is_indirect d
    → (if wrong then Some why.Index else if indirect then table_flaw q d else part_flaw q q.size parts d) ≡ None
    → is_indirect d ≡ false → (has_next d ≡ true → d.next < q.size) × IsPart q q.size parts d
plain_by q parts d true indirect a b is plain = absurd (cc)
plain_by q parts d false true a b is plain = absurd (cc)
plain_by q parts d false false a b is plain = (λ more. grind arith, part_fine q q.size parts d is)

pub plain_fine : (q : Queue) (parts : List Part) (d : Descriptor) → descriptor_flaw q parts d ≡ None → is_indirect d ≡ false
    → (has_next d ≡ true → d.next < q.size) × IsPart q q.size parts d
plain_fine q parts d is plain = plain_by q parts d _ _ refl refl is plain

naming_by : (q : Queue) (parts : List Part) (d : Descriptor) (wrong indirect : Bool) → indirect ≡ is_indirect d
    → (if wrong then Some why.Index else if indirect then table_flaw q d else part_flaw q q.size parts d) ≡ None
    → is_indirect d ≡ true → IsNaming q d
naming_by q parts d true indirect b is names = absurd (cc)
naming_by q parts d false false b is names = absurd (cc)
naming_by q parts d false true b is names = table_by q d _ _ _ refl refl refl is

pub naming_fine : (q : Queue) (parts : List Part) (d : Descriptor) → descriptor_flaw q parts d ≡ None → is_indirect d ≡ true → IsNaming q d
naming_fine q parts d is names = naming_by q parts d _ _ refl is names

-- ---- in a table that one names

entry_by : (q : Queue) (table : Table) (parts : List Part) (d : Descriptor) (indirect wrong : Bool)
    → wrong ≡ (has_next d && nat_le table.count d.next)
    → (if indirect then Some why.Indirect else if wrong then Some why.Entry else part_flaw q most_parts parts d) ≡ None
    → (has_next d ≡ true → d.next < table.count) × IsPart q most_parts parts d
entry_by q table parts d true wrong a is = absurd (cc)
entry_by q table parts d false true a is = absurd (cc)
entry_by q table parts d false false a is = (λ more. grind arith, part_fine q most_parts parts d is)

pub entry_fine : (q : Queue) (table : Table) (parts : List Part) (d : Descriptor) → entry_flaw q table parts d ≡ None
    → (has_next d ≡ true → d.next < table.count) × IsPart q most_parts parts d
entry_fine q table parts d is = entry_by q table parts d _ _ refl is

-- ---- parts

pub more_inside : (pages : ℕ) (parts : List Part) (part : Part) → AreInside pages parts → 0 < part.len
    → is_inside pages part.at part.len ≡ true → AreInside pages (parts ++ part ∷ [])
more_inside pages [] part inside some is = (some, is, tt)
more_inside pages (p ∷ parts) part inside some is =
    (inside.0, inside.1, more_inside pages parts part inside.2 some is)

-- a part without a flaw is inside RAM
pub part_inside : (q : Queue) (most : ℕ) (parts : List Part) (d : Descriptor) (way : Bool) → part_flaw q most parts d ≡ None
    → AreInside q.pages parts → AreInside q.pages (parts ++ record { at = d.at; len = d.len; writable = way } ∷ [])
part_inside q most parts d way none inside =
    let is = part_fine q most parts d none in
    more_inside q.pages parts (record { at = d.at; len = d.len; writable = way }) inside is.some is.inside

keeps_unless : (P : Op → Type 0) (Q : Walk → Type 0) (flaw : Option Why) (more : Doing Walk)
    → ((w : Why) → Q (Broken w)) → (flaw ≡ None → Keeps P Q more) → Keeps P Q (unless_flawed flaw more)
keeps_unless P Q (Some w) more broken on = broken w
keeps_unless P Q None more broken on = on refl

-- ---- the entries of a table

-- a part that is followed by the next one, or is the last
followed_keeps : (q : Queue) (head : ℕ) (parts : List Part) (d : Descriptor) (on : ℕ → List Part → Doing Walk)
    → (has_next d ≡ true → Keeps (IsInside q.pages) (WalkInside q.pages) (on d.next (with_part parts d)))
    → AreInside q.pages (with_part parts d) → Keeps (IsInside q.pages) (WalkInside q.pages) (followed head parts d on)
followed_keeps q head parts d on more all =
    keeps_if (IsInside q.pages) (WalkInside q.pages) (has_next d) (has_next d) (on d.next (with_part parts d))
    (Gives (Chain head (with_part parts d))) refl more (λ last. all)

module _ (q : Queue) (table : Table) (inside : is_inside q.pages table.at (16 * table.count) ≡ true) where
  abbrev Keep : Doing Walk → Type 0
  Keep t = Keeps (IsInside q.pages) (WalkInside q.pages) t

  pub rest_keeps : (at : ℕ) (front : List ℕ) (on : Descriptor → Doing Walk) → at < table.count → ((d : Descriptor) → Keep (on d))
      → Keep (entry_rest (entry_place table at) front on)
  rest_keeps at front on below keeps =
      let place = entry_place table at in
      let where_is = of_ram q.pages table.at (16 * table.count) inside in
      let most : front_length place ≤ 16 = omega arith in (
        in_ram q.pages (place + front_length place) (16 - front_length place) (omega (arith, where_is.0))
            (omega (arith, where_is.1, below, most)) (omega arith),
        λ reply fit. keeps (descriptor_of (front ++ read_bytes (16 - front_length place) reply)),
      )

  begun_keeps : (at : ℕ) (front : List ℕ) (on : Descriptor → Doing Walk) → at < table.count → ((d : Descriptor) → Keep (on d))
      → Keep (entry_begun (entry_place table at) front on)
  begun_keeps at front on below keeps =
      let test = nat_lt (front_length (entry_place table at)) 16 in
      keeps_if (IsInside q.pages) (WalkInside q.pages) test test _ _ refl (λ cut. rest_keeps at front on below keeps)
      (λ whole. keeps (descriptor_of front))

  read_keeps : (at : ℕ) (on : Descriptor → Doing Walk) → at < table.count → ((d : Descriptor) → Keep (on d))
      → Keep (entry_read (entry_place table at) on)
  read_keeps at on below keeps =
      let place = entry_place table at in
      let where_is = of_ram q.pages table.at (16 * table.count) inside in
      let most : front_length place ≤ 16 = omega arith in (
        in_ram q.pages place (front_length place) (omega (arith, where_is.0)) (omega (arith, where_is.1, below, most)) (omega (arith, most)),
        λ reply fit. begun_keeps at (read_bytes (front_length place) reply) on below keeps,
      )

  pub entries_keep : (head most at : ℕ) (parts : List Part) → at < table.count → AreInside q.pages parts
      → Keep (entries q head table most at parts)
  entries_keep head zero at parts below all = tt
  entries_keep head (suc most) at parts below all =
      read_keeps at (λ d. entry_linked q head table parts d (entries q head table most)) below (λ d.
      keeps_unless (IsInside q.pages) (WalkInside q.pages) (entry_flaw q table parts d)
      (followed head parts d (entries q head table most)) (λ w. tt) (λ none.
      let is = entry_fine q table parts d none in
      let longer = more_inside q.pages parts
      (record { at = d.at; len = d.len; writable = is_writable d }) all is.1.some is.1.inside in
      followed_keeps q head parts d (entries q head table most)
      (λ more. entries_keep head most d.next (with_part parts d) (is.0 more) longer) longer))

  pub linked_keeps : (head most : ℕ) (parts : List Part) (d : Descriptor) → AreInside q.pages parts
      → Keep (entry_linked q head table parts d (entries q head table most))
  linked_keeps head most parts d all =
      keeps_unless (IsInside q.pages) (WalkInside q.pages) (entry_flaw q table parts d)
      (followed head parts d (entries q head table most)) (λ w. tt) (λ none.
      let is = entry_fine q table parts d none in
      let longer = more_inside q.pages parts
      (record { at = d.at; len = d.len; writable = is_writable d }) all is.1.some is.1.inside in
      followed_keeps q head parts d (entries q head table most)
      (λ more. entries_keep head most d.next (with_part parts d) (is.0 more) longer) longer)

-- one more entry behind the part of one without a flaw
pub entry_next : (q : Queue) (table : Table) (at : ℕ) (parts : List Part) (d : Descriptor) (part : Part) → entry_flaw q table parts d ≡ None
    → has_next d ≡ true → IsEntry q table at parts → IsEntry q table d.next (parts ++ part ∷ [])
entry_next q table at parts d part none more is =
    let fine = entry_fine q table parts d none in
    let below = fine.0 more in
    let room = fine.1.room more in
    let longer = length-append parts (part ∷ []) in
    record { accepted = is.accepted; there = below; most = is.most; inside = is.inside; few = omega (arith, longer, room) }

-- ---- the queue's own descriptors

-- the table that one names
pub entry_named : (q : Queue) (parts : List Part) (d : Descriptor) → descriptor_flaw q parts d ≡ None → is_indirect d ≡ true
    → length parts < most_parts → IsEntry q (table_of d) 0 parts
entry_named q parts d none names few =
    let is = naming_fine q parts d none names in
    let same : d.len ≡ 16 * (d.len / 16) = omega (arith, is.whole) in
    record {
      accepted = is.accepted;
      there = omega (arith, is.whole, is.some);
      most = omega (arith, is.most);
      inside = subst (λ (n : ℕ). is_inside q.pages d.at n ≡ true) same is.inside;
      few = few;
    }

named_keeps : (q : Queue) (head : ℕ) (parts : List Part) (d : Descriptor) → IsNaming q d → AreInside q.pages parts
    → Keeps (IsInside q.pages) (WalkInside q.pages) (entries q head (table_of d) (most_parts - length parts) 0 parts)
named_keeps q head parts d is all =
    let same : d.len ≡ 16 * (d.len / 16) = omega (arith, is.whole) in
    let some : 0 < d.len / 16 = omega (arith, is.whole, is.some) in
    entries_keep q (table_of d) (subst (λ (n : ℕ). is_inside q.pages d.at n ≡ true) same is.inside) head (most_parts - length parts) 0
    parts some all

pub descriptors_keep : (q : Queue) (head most at : ℕ) (parts : List Part) → IsSound q → at < q.size
    → AreInside q.pages parts → Keeps (IsInside q.pages) (WalkInside q.pages) (descriptors q head most at parts)
descriptors_keep q head zero at parts sound below inside = tt
descriptors_keep q head (suc most) at parts sound below inside = (
  in_ram q.pages (q.descriptors + 16 * at) 16 (omega (arith, sound.tables.descriptors_in))
      (omega (arith, sound.tables.descriptors_in)) (omega arith),
  λ reply fit.
      let d = descriptor_of (read_bytes 16 reply) in
      let named = entries q head (table_of d) (most_parts - length parts) 0 parts in
      let next = followed head parts d (descriptors q head most) in
      keeps_unless (IsInside q.pages) (WalkInside q.pages) (descriptor_flaw q parts d) (if is_indirect d then named else next) (λ w. tt) (λ none.
      keeps_if (IsInside q.pages) (WalkInside q.pages) (is_indirect d) (is_indirect d) named next refl
      (λ names. named_keeps q head parts d (naming_fine q parts d none names) inside)
      (λ plain.
      let is = plain_fine q parts d none plain in
      let longer = more_inside q.pages parts
      (record { at = d.at; len = d.len; writable = is_writable d }) inside is.1.some is.1.inside in
      followed_keeps q head parts d (descriptors q head most)
      (λ more. descriptors_keep q head most d.next (with_part parts d) sound (is.0 more) longer) longer)),
)

headed_keep : (q : Queue) (head : ℕ) → IsSound q → Keeps (IsInside q.pages) (WalkInside q.pages) (headed_by q head)
headed_keep q head sound =
    keeps_if (IsInside q.pages) (WalkInside q.pages) (nat_le q.size head) (nat_le q.size head) _ _ refl
    (λ past_end. tt)
    (λ below. descriptors_keep q head q.size head [] sound (grind arith) tt)

pub ring_keeps : (q : Queue) (next : ℕ) → IsSound q
    → Keeps (IsInside q.pages) (WalkInside q.pages) (ring_entry q next)
ring_keeps q next sound = (
  in_ram q.pages (q.available + (4 + 2 * (next % q.size))) 2 (omega (arith, sound.tables.available_in))
      (omega (arith, sound.tables.available_in, sound.some)) (omega arith),
  λ reply fit. headed_keep q (field_at (read_bytes 2 reply) 0 2) sound,
)

pub indexed_keep : (q : Queue) (next index : ℕ) → IsSound q
    → Keeps (IsInside q.pages) (WalkInside q.pages) (indexed_by q next index)
indexed_keep q next index sound =
    keeps_if (IsInside q.pages) (WalkInside q.pages) (index == next) (index == next) _ _ refl (λ none. tt)
    (λ some. keeps_if (IsInside q.pages) (WalkInside q.pages) (nat_lt q.size ((index + 2 ^ 16 - next) % 2 ^ 16))
    (nat_lt q.size ((index + 2 ^ 16 - next) % 2 ^ 16)) _ _ refl (λ ahead. tt)
    (λ near. ring_keeps q next sound))

pub event_two : (q : Queue) → q.accepted.event_index ≡ true → event_bytes q ≡ 2
event_two q is = ap (λ (has : Bool). if has then 2 else 0) is

-- ---- the look at the ring

abbrev pub Looks : Queue → Doing ℕ → Type 0
Looks q t = Keeps (IsInside q.pages) (λ (index : ℕ). Unit {0}) t

pub again_looks : (q : Queue) → IsSound q → Looks q (index_again q)
again_looks q sound = (
  in_ram q.pages (q.available + 2) 2 (omega (arith, sound.tables.available_in)) (omega (arith, sound.tables.available_in)) (omega arith),
  λ reply fit. tt,
)

pub event_looks : (q : Queue) (next : ℕ) → IsSound q → q.accepted.event_index ≡ true → Looks q (event_written q next)
event_looks q next sound has =
    let two = event_two q has in (
      in_ram q.pages (avail_event q) 2 (omega (arith, sound.tables.used_in)) (omega (arith, sound.tables.used_in, two)) (omega arith),
      λ reply fit. again_looks q sound,
    )

seen_looks : (q : Queue) (next index : ℕ) (test : Bool) → ((index == next) && q.accepted.event_index) ≡ test → IsSound q
    → Looks q (if test then event_written q next else Gives index)
seen_looks q next index true is sound = event_looks q next sound (and_parts (index == next) q.accepted.event_index is).1
seen_looks q next index false is sound = tt

pub ring_looks : (q : Queue) (next : ℕ) → IsSound q → Looks q (queue_look q next)
ring_looks q next sound = (
  in_ram q.pages (q.available + 2) 2 (omega (arith, sound.tables.available_in)) (omega (arith, sound.tables.available_in)) (omega arith),
  λ reply fit. seen_looks q next (index_in reply) ((index_in reply == next) && q.accepted.event_index) refl sound,
)

-- and what is behind it
pub look_then : (q : Queue) (next : ℕ) (t : Doing ℕ) → IsSound q → Looks q t
    → Keeps (IsInside q.pages) (WalkInside q.pages) (and_then t (indexed_by q next))
look_then q next t sound looks =
    keeps_then (IsInside q.pages) (λ (index : ℕ). Unit {0}) (WalkInside q.pages) t (indexed_by q next) looks
    (λ index any. indexed_keep q next index sound)

pub walk_keeps : (q : Queue) (next : ℕ) → IsSound q
    → Keeps (IsInside q.pages) (WalkInside q.pages) (chain_walk q next)
walk_keeps q next sound = look_then q next (queue_look q next) sound (ring_looks q next sound)

size_of : (n : ℕ) → is_size n ≡ true → (0 < n) × (n ≤ 256)
size_of n is = (grind arith, grind arith)

pub tables_of : (q : Queue) → are_tables q ≡ true → q.pages < 2 ^ 32 → AreTables q
tables_of q is few =
    let t5 = and_parts _ _ is in
    let t4 = and_parts _ _ t5.0 in
    let t3 = and_parts _ _ t4.0 in
    let t2 = and_parts _ _ t3.0 in
    let t1 = and_parts _ _ t2.0 in
    record {
      pages = few;
      descriptors_in = of_ram q.pages q.descriptors (16 * q.size) t1.1;
      available_in = of_ram q.pages q.available (4 + 2 * q.size + event_bytes q) t3.1;
      used_in = of_ram q.pages q.used (4 + 8 * q.size + event_bytes q) t5.1;
      aligned = (eqb-true _ _ t1.0, eqb-true _ _ t2.1, eqb-true _ _ t4.1);
    }

pub sound_of : (q : Queue) (size tables : Bool) → is_size q.size ≡ size → are_tables q ≡ tables → q.pages < 2 ^ 32
    → ◌≡◌ {A = Option Why} (if size then (if tables then None else Some why.Table) else Some why.Size) None
    → IsSound q
sound_of q false tables a b few is = cc
sound_of q true false a b few is = cc
sound_of q true true a b few is =
    let s = size_of q.size a in record { some = s.0; most = s.1; tables = tables_of q b few }

pub sound : (q : Queue) → q.pages < 2 ^ 32 → queue_flaw q ≡ None → IsSound q
sound q few is = sound_of q _ _ refl refl few is
