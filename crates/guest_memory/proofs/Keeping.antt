-- A memory that a state file can have stays one, and what it replies are bytes and words of RAM.
use Rattle.std.proofs.Common.{◌≡◌, ◌<◌, ◌≤◌, ℕ, zero, suc, ◌+◌, ◌-◌, ◌*◌, ◌%◌, ◌&&◌, nat_le, nat_lt, not, Bool, true, false, if◌then◌else◌, refl, ap, subst, ◌∙◌, List, [], ◌∷◌, ◌++◌, Option, Some, None, length, take, drop, replicate, slice_set, arith, length-append, length-drop}
use Rattle.std.specs.List.{All}
use Rattle.std.specs.Prelude.{IfSome}
use Rattle.std.specs.Int.{w64, byte_at, bytes_low_first, to_le_bytes}
use Rattle.std.proofs.lemmas.Bool.{and_parts, leb-true, ltb-true}
use Rattle.std.proofs.lemmas.List.{length-replicate, length-set, length-take-le}
use Rattle.std.proofs.lemmas.List.Elements.{All-append, All-cons, All-drop, All-nil, All-replicate, All-take}
use Rattle.vm_types.specs.declared.ids.ActorId.{ActorId}
use Rattle.vm_types.specs.declared.ids.ActorId.TheVariants as actor_id
use Rattle.vm_types.specs.declared.op.Op.{Op}
use Rattle.vm_types.specs.declared.op.Op.TheVariants.{Read, Write, Amo, Lr, Sc}
use Rattle.vm_types.specs.declared.reply.Reply.{Reply}
use Rattle.vm_types.specs.declared.reply.Reply.TheVariants.{Done, Bytes, Word, AccessFault}
use Rattle.vm_types.specs.Ids.{same_actor}
use Rattle.guest_memory.specs.Amo.{amo_value}
use Rattle.guest_memory.specs.Kept.{AreLoads, AreSlots, IsByte, IsKept, IsOneOf, IsSlot, IsSmallOp, IsSmallReply}
use Rattle.guest_memory.specs.Boot.{Loads, boot_memory, bytes_of_mib, image_offset, initrd_start, laid, tree_start, with_initrd}
use Rattle.guest_memory.specs.Memory.{Memory, put_at, read_from, reserving, stored, touch, word_at, written}
use Rattle.guest_memory.specs.Ram.{is_ram, page_count, page_number, page_size, ram_start}
use Rattle.guest_memory.specs.Reserved.{first_slot, granule_of, granule_start, hart_limit, held_by, is_granule, reaches, slot_after, slots_after, unreserved}
use Rattle.guest_memory.specs.Words.{width_of, word_bytes}
use Rattle.guest_memory.proofs.Ending.{length-slots_after}

-- ---- slots

pub slots_set : (harts slot i : ℕ) (slots : List (Option ℕ)) (held : Option ℕ) → IsSlot harts (slot + i) held
    → AreSlots harts slot slots → AreSlots harts slot (slice_set slots i held)
slots_set harts slot i [] held is all = tt
slots_set harts slot zero (first ∷ slots) held is all =
    let here : slot + 0 ≡ slot = omega arith in
    (subst (λ (n : ℕ). IsSlot harts n held) here is, all.1)
slots_set harts slot (suc i) (first ∷ slots) held is all =
    let next : slot + suc i ≡ suc slot + i = omega arith in
    (all.0, slots_set harts (suc slot) i slots held (subst (λ (n : ℕ). IsSlot harts n held) next is) all.1)

one_by : (b : Bool) (harts slot offset : ℕ) → IsSlot harts slot (Some offset)
    → IsSlot harts slot (if b then None else Some offset)
one_by true harts slot offset is = tt
one_by false harts slot offset is = is

one_ends : (harts slot : ℕ) (writer : ActorId) (at len : ℕ) (held : Option ℕ) → IsSlot harts slot held
    → IsSlot harts slot (slot_after writer at len slot held)
one_ends harts slot writer at len None is = tt
one_ends harts slot writer at len (Some offset) is =
    one_by (reaches at len (granule_start slot offset) && not (same_actor (actor_id.Hart (slot % hart_limit)) writer)) harts slot offset is

pub slots_end : (harts slot : ℕ) (writer : ActorId) (at len : ℕ) (slots : List (Option ℕ)) → AreSlots harts slot slots
    → AreSlots harts slot (slots_after writer at len slot slots)
slots_end harts slot writer at len [] all = tt
slots_end harts slot writer at len (held ∷ slots) all =
    (one_ends harts slot writer at len held all.0, slots_end harts (suc slot) writer at len slots all.1)

pub none_reserved : (harts slot n : ℕ) → AreSlots harts slot (replicate n None)
none_reserved harts slot zero = tt
none_reserved harts slot (suc n) = (tt, none_reserved harts (suc slot) n)

-- what is held here: nothing, or a granule of the page
abbrev pub IsGranule : Option ℕ → Type 0
IsGranule None = Unit {0}
IsGranule (Some offset) = (offset < page_size) × (offset % 8 ≡ 0)

pub own_slot : (harts page k : ℕ) (held : Option ℕ) → k < 32 → k < harts → IsGranule held
    → IsSlot harts (0 + (hart_limit * page + k)) held
own_slot harts page k None few there is = tt
own_slot harts page k (Some offset) few there is =
    let here : (0 + (hart_limit * page + k)) % hart_limit ≡ k = omega (arith, few) in
    (omega (arith, here, there), is.0, is.1)

pub granule_small : (at : ℕ) → IsGranule (Some (granule_of at))
granule_small at = (omega arith, omega arith)

-- ---- bytes

pub put_long : (bytes piece : List ℕ) (o : ℕ) → o + length piece ≤ length bytes → length (put_at bytes o piece) ≡ length bytes
put_long bytes piece o inside =
    let front = length-append (take o bytes) piece in
    let kept = length-take-le o bytes (omega arith) in
    let rest = length-drop (o + length piece) bytes in
    length-append (take o bytes ++ piece) (drop (o + length piece) bytes) ∙ omega (arith, front, kept, rest)

pub put_bytes : (bytes piece : List ℕ) (o : ℕ) → All IsByte bytes → All IsByte piece → All IsByte (put_at bytes o piece)
put_bytes bytes piece o old new =
    All-append IsByte (take o bytes ++ piece) (drop (o + length piece) bytes)
    (All-append IsByte (take o bytes) piece (All-take IsByte o bytes old) new) (All-drop IsByte (o + length piece) bytes old)

byte_small : (i n : ℕ) → byte_at i n < 256
byte_small zero n = omega arith
byte_small (suc i) n = omega arith

low_bytes : (i k n : ℕ) → All IsByte (bytes_low_first i k n)
low_bytes i zero n = All-nil IsByte
low_bytes i (suc k) n =
    All-cons IsByte (byte_at i n) (bytes_low_first (suc i) k n) (byte_small i n) (low_bytes (suc i) k n)

word_small : (wide : Bool) (value : ℕ) → All IsByte (word_bytes wide value)
word_small wide value = All-take IsByte (width_of wide) (to_le_bytes w64 value) (low_bytes 0 8 value)

pub word_long : (wide : Bool) (value : ℕ) → length (word_bytes wide value) ≡ width_of wide
word_long true value = refl
word_long false value = refl

-- ---- acts

module _ (pages harts : ℕ) where
  either : (b : Bool) (x y : Reply × Memory) → (b ≡ true → IsKept pages harts x.1) → (b ≡ false → IsKept pages harts y.1)
      → IsKept pages harts (if b then x else y).1
  either true x y first second = first refl
  either false x y first second = second refl

  holds_by : (m : Memory) (b : Bool) (k at : ℕ) (held : Option ℕ) → nat_lt k hart_limit ≡ b → k < harts → IsGranule held
      → IsKept pages harts m
      → (length (if b then slice_set m.reserved (first_slot at + k) held else m.reserved) ≡ hart_limit * pages)
      × AreSlots harts 0 (if b then slice_set m.reserved (first_slot at + k) held else m.reserved)
  holds_by m true k at held few there granule is = (
    length-set m.reserved (first_slot at + k) held ∙ is.many_slots,
    slots_set harts 0 (first_slot at + k) m.reserved held
        (own_slot harts (page_number at) k held (ltb-true k hart_limit few) there granule) is.slots,
  )
  holds_by m false k at held few there granule is = (is.many_slots, is.slots)

  holds : (m : Memory) (actor : ActorId) (at : ℕ) (held : Option ℕ) → IsOneOf harts actor → IsGranule held → IsKept pages harts m
      → IsKept pages harts (reserving m actor at held)
  holds m (actor_id.Hart k) at held there granule is =
      let left = holds_by m (nat_lt k hart_limit) k at held refl there granule is in
      record { many_bytes = is.many_bytes; bytes = is.bytes; many_slots = left.0; slots = left.1 }
  holds m actor_id.Timer at held there granule is = is
  holds m (actor_id.Device k) at held there granule is = is

  writes : (m : Memory) (actor : ActorId) (at n : ℕ) (piece : List ℕ) → length piece ≡ n → is_ram (length m.bytes) at n ≡ true
      → All IsByte piece → IsKept pages harts m → IsKept pages harts (written m actor at piece)
  writes m actor at n piece long ram bytes is =
      let parts = and_parts (nat_le ram_start at) (nat_le (at - ram_start + n) (length m.bytes)) ram in
      let inside : at - ram_start + n ≤ length m.bytes = leb-true (at - ram_start + n) (length m.bytes) parts.1 in
      record {
        many_bytes = put_long m.bytes piece (at - ram_start) (omega (arith, long, inside)) ∙ is.many_bytes;
        bytes = put_bytes m.bytes piece (at - ram_start) is.bytes bytes;
        many_slots = length-slots_after actor at (length piece) 0 m.reserved ∙ is.many_slots;
        slots = slots_end harts 0 actor at (length piece) m.reserved is.slots;
      }

  stores : (m : Memory) (actor : ActorId) (at n : ℕ) (piece : List ℕ) → length piece ≡ n → is_ram (length m.bytes) at n ≡ true
      → All IsByte piece → IsOneOf harts actor → IsKept pages harts m → IsKept pages harts (stored m actor at piece).1
  stores m actor at n piece long ram bytes there is =
      either (is_granule (granule_of at) (held_by m.reserved (first_slot at) actor))
      (Word 0, reserving (written m actor at piece) actor at None) (Word 1, reserving m actor at None)
      (λ own. holds (written m actor at piece) actor at None there tt (writes m actor at n piece long ram bytes is))
      (λ other. holds m actor at None there tt is)

  pub touch_kept : (m : Memory) (actor : ActorId) (op : Op) → IsOneOf harts actor → IsSmallOp op → IsKept pages harts m
      → IsKept pages harts (touch m actor op).1
  touch_kept m actor (Read at len) there small is =
      either (nat_le len 64 && is_ram (length m.bytes) at len) (Bytes (read_from m at len), m) (AccessFault, m) (λ ram. is) (λ out. is)
  touch_kept m actor (Write at piece) there small is =
      either (is_ram (length m.bytes) at (length piece)) (Done, written m actor at piece) (AccessFault, m)
      (λ ram. writes m actor at (length piece) piece refl ram small is) (λ out. is)
  touch_kept m actor (Amo at value kind wide) there small is =
      let new : ℕ = amo_value kind wide (word_at m at wide) value in
      either (is_ram (length m.bytes) at (width_of wide)) (Word (word_at m at wide), written m actor at (word_bytes wide new)) (AccessFault, m)
      (λ ram. writes m actor at (width_of wide) (word_bytes wide new) (word_long wide new) ram (word_small wide new) is) (λ out. is)
  touch_kept m actor (Lr at wide) there small is =
      either (is_ram (length m.bytes) at (width_of wide)) (Word (word_at m at wide), reserving m actor at (Some (granule_of at)))
      (AccessFault, m) (λ ram. holds m actor at (Some (granule_of at)) there (granule_small at) is) (λ out. is)
  touch_kept m actor (Sc at value wide) there small is =
      either (is_ram (length m.bytes) at (width_of wide)) (stored m actor at (word_bytes wide value)) (AccessFault, m)
      (λ ram. stores m actor at (width_of wide) (word_bytes wide value) (word_long wide value) ram (word_small wide value) there is)
      (λ out. is)
  touch_kept m actor op there small is = is

-- ---- replies

module _ (m : Memory) (actor : ActorId) (op : Op) where
  abbrev IsGood : Reply × Memory → Type 0
  IsGood x = IsSmallReply (length m.bytes) op x.0

  either_replies : (b : Bool) (x y : Reply × Memory) → (b ≡ true → IsGood x) → IsGood y → IsGood (if b then x else y)
  either_replies true x y first second = first refl
  either_replies false x y first second = second

pub touch_small : (m : Memory) (actor : ActorId) (op : Op) → All IsByte m.bytes → IsSmallReply (length m.bytes) op (touch m actor op).0
touch_small m actor (Read at len) bytes =
    either_replies m actor (Read at len) (nat_le len 64 && is_ram (length m.bytes) at len) (Bytes (read_from m at len), m) (AccessFault, m)
    (λ ram. All-take IsByte len (drop (at - ram_start) m.bytes) (All-drop IsByte (at - ram_start) m.bytes bytes)) tt
touch_small m actor (Write at piece) bytes =
    either_replies m actor (Write at piece) (is_ram (length m.bytes) at (length piece)) (Done, written m actor at piece) (AccessFault, m)
    (λ ram. tt) tt
touch_small m actor (Amo at value kind wide) bytes =
    either_replies m actor (Amo at value kind wide) (is_ram (length m.bytes) at (width_of wide))
    (Word (word_at m at wide), written m actor at (word_bytes wide (amo_value kind wide (word_at m at wide) value))) (AccessFault, m)
    (λ ram. tt) tt
touch_small m actor (Lr at wide) bytes =
    either_replies m actor (Lr at wide) (is_ram (length m.bytes) at (width_of wide))
    (Word (word_at m at wide), reserving m actor at (Some (granule_of at))) (AccessFault, m) (λ ram. ram) tt
touch_small m actor (Sc at value wide) bytes =
    let piece : List ℕ = word_bytes wide value in
    either_replies m actor (Sc at value wide) (is_ram (length m.bytes) at (width_of wide)) (stored m actor at piece) (AccessFault, m)
    (λ ram. either_replies m actor (Sc at value wide) (is_granule (granule_of at) (held_by m.reserved (first_slot at) actor))
    (Word 0, reserving (written m actor at piece) actor at None) (Word 1, reserving m actor at None) (λ own. omega arith) (omega arith)) tt
touch_small m actor op bytes = tt

-- ---- and as a start leaves it

disk_bytes : (mib : ℕ) (initrd : Option (List ℕ)) (bytes : List ℕ) → IfSome initrd (All IsByte) → All IsByte bytes
    → All IsByte (with_initrd mib initrd bytes)
disk_bytes mib None bytes disk all = all
disk_bytes mib (Some initrd) bytes disk all = put_bytes bytes initrd (initrd_start mib (length initrd) - ram_start) all disk

laid_bytes : (mib : ℕ) (loads : Loads) (bytes : List ℕ) → AreLoads loads → All IsByte bytes → All IsByte (laid mib loads bytes)
laid_bytes mib loads bytes all zeros =
    let imaged : List ℕ = put_at bytes image_offset loads.image in
    put_bytes (with_initrd mib loads.initrd imaged) loads.tree (tree_start mib - ram_start)
    (disk_bytes mib loads.initrd imaged all.1 (put_bytes bytes loads.image image_offset zeros all.0)) all.2

pub booted_kept : (mib harts : ℕ) (loads : Loads) → AreLoads loads → length (boot_memory mib loads).bytes ≡ bytes_of_mib mib
    → IsKept (256 * mib) harts (boot_memory mib loads)
unfolding unreserved
booted_kept mib harts loads all whole =
    let pages : page_count (bytes_of_mib mib) ≡ 256 * mib = omega arith in record {
      many_bytes = omega (arith, whole);
      bytes = laid_bytes mib loads (replicate (bytes_of_mib mib) 0) all (All-replicate IsByte (bytes_of_mib mib) 0 (omega arith));
      many_slots =
          length-replicate {A = Option ℕ} (hart_limit * page_count (bytes_of_mib mib)) None ∙ ap (λ (n : ℕ). hart_limit * n) pages;
      slots = none_reserved harts 0 (hart_limit * page_count (bytes_of_mib mib));
    }
