-- Where a reply leads a walk.
use Rattle.std.proofs.Common.{◌≡◌, ◌∙◌, ℕ, zero, suc, ◌+◌, ◌-◌, ◌*◌, ◌^◌, ◌<◌, ◌≤◌, ◌==◌, ◌&&◌, nat_lt, refl, sym, ap, subst, Bool, true, false, if◌then◌else◌, Some, None, List, ◌++◌, length, replicate, arith}
use Rattle.std.proofs.lemmas.Bool.{eqb-true, lt-ltb}
use Rattle.std.proofs.lemmas.List.{length-replicate}
use Rattle.vq_split.specs.declared.descriptor.Descriptor.{Descriptor}
use Rattle.vq_split.specs.declared.queue.Queue.{Queue}
use Rattle.vq_split.specs.declared.queue.Part.{Part}
use Rattle.vq_split.specs.declared.queue.Table.{Table}
use Rattle.vm_types.specs.declared.op.Op.TheVariants.{Read}
use Rattle.vm_types.specs.declared.reply.Reply.{Reply}
use Rattle.vm_types.specs.declared.reply.Reply.TheVariants.{Bytes}
use Rattle.vm_types.specs.Fits.{fits}
use Rattle.device_trace.specs.Doing.{Doing, Gives, and_then, asked, led}
use Rattle.vq_split.specs.declared.walk.Walk.{Walk}
use Rattle.vq_split.specs.declared.walk.Walk.TheVariants.{More}
use Rattle.vq_split.specs.declared.walk.Stage.TheVariants.{Entry, EntryRest, Link}
use Rattle.vq_split.specs.Chain.{descriptors, descriptor_of, described_by, entries, entry_begun, entry_linked, entry_place, entry_rest, event_written, front_length, index_seen, indexed_by, most_parts, read_bytes}
use Rattle.vq_split.specs.Walking.{IsEntry, IsSound, IsStage, Told, Walking, left_at, look_open, op_at, walk_left, walk_wants}
use Rattle.vq_split.proofs.Inside.{of_ram}

-- a reply that isn't bytes brings zeros
pub no_bytes : (len : ℕ) (reply : Reply) → ((piece : List ℕ) → reply ≡ Bytes piece → ⊥)
    → read_bytes len reply ≡ replicate len 0
no_bytes len (Bytes piece) not = absurd (not piece refl)
no_bytes len reply not = refl

-- bytes that fit a read are as many as it reads
pub bytes_fit : (at len : ℕ) (reply : Reply) → fits (Read at len) reply ≡ true → length (read_bytes len reply) ≡ len
bytes_fit at len (Bytes piece) fit = eqb-true (length piece) len fit
bytes_fit at len reply fit = length-replicate len 0

-- each entry of a table inside RAM has an address
pub entry_fits : (q : Queue) (table : Table) (at : ℕ) (parts : List Part) → q.pages < 2 ^ 32 → IsEntry q table at parts
    → table.at + 16 * at < 2 ^ 64
entry_fits q table at parts few is =
    let where_is = of_ram q.pages table.at (16 * table.count) is.inside in omega (arith, where_is.1, is.there)

descriptors_led : (q : Queue) (head most at : ℕ) (parts : List Part) (reply : Reply) → 0 < most
    → led (descriptors q head most at parts) reply ≡ described_by q head (most - 1) parts
    (descriptor_of (read_bytes 16 reply))
descriptors_led q head zero at parts reply some = absurd (omega arith)
descriptors_led q head (suc most) at parts reply some =
    let one_less : suc most - 1 ≡ most = omega arith in
    rw one_less refl

pub told_link : (w : Walking) (head at : ℕ) (reply : Reply) (result : Walk) (left : Doing Walk)
    → w.stage ≡ Link head at → IsStage w.stage w.queue w.parts
    → Told (described_by w.queue head (w.queue.size - length w.parts - 1) w.parts
    (descriptor_of (read_bytes 16 reply))) result left → Told (led (walk_left w) reply) result left
told_link w head at reply result left is sound told =
    let here = subst (λ s. IsStage s w.queue w.parts) is sound in
    let some : 0 < w.queue.size - length w.parts = omega (arith, here) in
    let same = descriptors_led w.queue head (w.queue.size - length w.parts) at w.parts reply some in
    subst (λ s. Told (led (left_at s w.queue w.next w.parts) reply) result left) (sym is)
    (subst (λ t. Told t result left) (sym same) told)

-- what an entry that came leads to, in a walk that has these parts
abbrev pub entry_led : Walking → ℕ → Table → Descriptor → Doing Walk
entry_led w head table d =
    entry_linked w.queue head table w.parts d (entries w.queue head table (most_parts - length w.parts - 1))

entries_led : (q : Queue) (head : ℕ) (table : Table) (most at : ℕ) (parts : List Part) (reply : Reply) → 0 < most
    → led (entries q head table most at parts) reply
    ≡ entry_begun (entry_place table at) (read_bytes (front_length (entry_place table at)) reply) (λ d.
    entry_linked q head table parts d (entries q head table (most - 1)))
entries_led q head table zero at parts reply some = absurd (omega arith)
entries_led q head table (suc most) at parts reply some =
    let one_less : suc most - 1 ≡ most = omega arith in
    rw one_less refl

pub told_entry : (w : Walking) (head : ℕ) (table : Table) (at : ℕ) (reply : Reply) (result : Walk) (left : Doing Walk)
    → w.stage ≡ Entry head table at → IsEntry w.queue table at w.parts
    → Told (entry_begun (entry_place table at) (read_bytes (front_length (entry_place table at)) reply) (entry_led w head table))
    result left → Told (led (walk_left w) reply) result left
told_entry w head table at reply result left is here told =
    let some : 0 < most_parts - length w.parts = omega (arith, here.few) in
    let same = entries_led w.queue head table (most_parts - length w.parts) at w.parts reply some in
    subst (λ s. Told (led (left_at s w.queue w.next w.parts) reply) result left) (sym is)
    (subst (λ t. Told t result left) (sym same) told)

pub told_rest : (w : Walking) (head : ℕ) (table : Table) (at : ℕ) (front : List ℕ) (reply : Reply) (result : Walk) (left : Doing Walk)
    → w.stage ≡ EntryRest head table at front → length front ≡ front_length (entry_place table at)
    → Told (entry_led w head table (descriptor_of (front ++ read_bytes (16 - length front) reply))) result left
    → Told (led (walk_left w) reply) result left
told_rest w head table at front reply result left is long told =
    subst (λ s. Told (led (left_at s w.queue w.next w.parts) reply) result left) (sym is)
    (subst (λ (n : ℕ). Told (entry_led w head table (descriptor_of (front ++ read_bytes (16 - n) reply))) result left) long told)

-- the rest of an entry is what its front hasn't
module _ (w : Walking) (head : ℕ) (table : Table) (at : ℕ) (front : List ℕ) (is : w.stage ≡ EntryRest head table at front)
    (staged : IsStage w.stage w.queue w.parts) where
  rest_staged : IsStage (EntryRest head table at front) w.queue w.parts
  rest_staged = subst (λ s. IsStage s w.queue w.parts) is staged

  pub front_short : length front ≤ 16
  front_short = let here = rest_staged in omega (arith, here.1, here.2)

  pub rest_length : (reply : Reply) → fits (walk_wants w) reply ≡ true
      → length (read_bytes (16 - length front) reply) ≡ 16 - length front
  rest_length reply fit =
      let place = entry_place table at in
      subst (λ (n : ℕ). length (read_bytes (16 - n) reply) ≡ 16 - n) (sym rest_staged.2)
      (bytes_fit (place + front_length place) (16 - front_length place) reply
      (subst (λ s. fits (op_at s w.queue w.next) reply ≡ true) is fit))

pub one_front : (head other : ℕ) (table named : Table) (at there : ℕ) (front rest : List ℕ)
    → EntryRest head table at front ≡ EntryRest other named there rest → front ≡ rest
one_front head other table named at there front rest same = cc

-- where a page ends inside an entry the rest is wanted
cut_at : (place : ℕ) (front : List ℕ) (on : Descriptor → Doing Walk) → length front ≡ front_length place → length front < 16
    → Told (entry_begun place front on) More (entry_rest place front on)
cut_at place front on long cut =
    let less : nat_lt (front_length place) 16 ≡ true = lt-ltb _ _ (subst (λ (n : ℕ). n < 16) long cut) in
    subst (λ (b : Bool). Told (if b then entry_rest place front on else on (descriptor_of front)) More (entry_rest place front on)) (sym less)
    refl

pub told_cut : (x w : Walking) (head : ℕ) (table : Table) (place : ℕ) (front : List ℕ) → x ≡ w → length front ≡ front_length place
    → length front < 16 → Told (entry_begun place front (entry_led w head table)) More (entry_rest place front (entry_led x head table))
told_cut x w head table place front same long cut =
    subst (λ (y : Walking). Told (entry_begun place front (entry_led y head table)) More (entry_rest place front (entry_led x head table))) same
    (cut_at place front (entry_led x head table) long cut)

-- the act of an entry
pub asked_entries : (q : Queue) (head : ℕ) (table : Table) (most at : ℕ) (parts : List Part) → 0 < most
    → asked (entries q head table most at parts) ≡ Some (Read (entry_place table at) (front_length (entry_place table at)))
asked_entries q head table zero at parts some = absurd (omega arith)
asked_entries q head table (suc most) at parts some = refl

-- ---- the look at the ring

module _ (q : Queue) (next index : ℕ) where
  abbrev Old : Bool → Type 0
  Old test = ((index == next) && q.accepted.event_index) ≡ test

  pub told_again : Old true → Told (and_then (index_seen q next index) (indexed_by q next)) More (and_then (event_written q next) (indexed_by q next))
  told_again is =
      subst (λ (b : Bool). Told (and_then (if b then event_written q next else Gives index) (indexed_by q next)) More
      (and_then (event_written q next) (indexed_by q next))) (sym is) refl

  pub told_once : (result : Walk) (left : Doing Walk) → Old false → Told (indexed_by q next index) result left
      → Told (and_then (index_seen q next index) (indexed_by q next)) result left
  told_once result left is told =
      subst (λ (b : Bool). Told (and_then (if b then event_written q next else Gives index) (indexed_by q next)) result left) (sym is) told

  pub open_again : Old true → Some (event_written q next) ≡ look_open (index_seen q next index)
  open_again is = ap (λ (b : Bool). look_open (if b then event_written q next else Gives index)) (sym is)

  pub open_once : Old false → None ≡ look_open (index_seen q next index)
  open_once is = ap (λ (b : Bool). look_open (if b then event_written q next else Gives index)) (sym is)
