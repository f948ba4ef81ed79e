-- Memory stays in whole pages, with a slot for each hart in each.
use Rattle.std.proofs.Common.{◌≡◌, ◌<◌, ◌≤◌, ℕ, ◌+◌, ◌-◌, ◌*◌, ◌&&◌, nat_le, nat_lt, Bool, true, false, if◌then◌else◌, refl, ap, ◌∙◌, List, Option, Some, None, length, slice_set, arith}
use Rattle.std.proofs.lemmas.Bool.{and_parts, leb-true, ltb-true}
use Rattle.std.proofs.lemmas.List.{length-replicate, length-set}
use Rattle.vm_types.specs.declared.ids.ActorId.{ActorId}
use Rattle.vm_types.specs.declared.ids.ActorId.TheVariants as actor_id
use Rattle.vm_types.specs.declared.op.Op.{Op}
use Rattle.vm_types.specs.declared.op.Op.TheVariants.{Read, Write, Amo, Lr, Sc}
use Rattle.vm_types.specs.declared.reply.Reply.{Reply}
use Rattle.vm_types.specs.declared.reply.Reply.TheVariants.{Done, Bytes, Word, AccessFault}
use Rattle.guest_memory.specs.Amo.{amo_value}
use Rattle.guest_memory.specs.Kept.{AreSlots, IsOneOf}
use Rattle.guest_memory.specs.Boot.{Loads, boot_memory, bytes_of_mib}
use Rattle.guest_memory.specs.Memory.{Memory, read_from, reserving, stored, touch, word_at, written}
use Rattle.guest_memory.specs.Ram.{is_ram, page_count, page_number, ram_start}
use Rattle.guest_memory.specs.Reserved.{first_slot, granule_of, hart_limit, held_by, is_granule, unreserved}
use Rattle.guest_memory.specs.Words.{width_of, word_bytes}
use Rattle.guest_memory.proofs.Ending.{length-slots_after}
use Rattle.guest_memory.specs.Kept.{IsRamReply, IsWhole}
use Rattle.guest_memory.proofs.Keeping.{IsGranule, granule_small, none_reserved, own_slot, put_long, slots_end, slots_set, word_long}

module _ (pages harts : ℕ) where
  either : (b : Bool) (x y : Reply × Memory) → (b ≡ true → IsWhole pages harts x.1) → (b ≡ false → IsWhole pages harts y.1)
      → IsWhole pages harts (if b then x else y).1
  either true x y first second = first refl
  either false x y first second = second refl

  holds_by : (m : Memory) (b : Bool) (k at : ℕ) (held : Option ℕ) → nat_lt k hart_limit ≡ b → k < harts → IsGranule held
      → IsWhole pages harts m
      → (length (if b then slice_set m.reserved (first_slot at + k) held else m.reserved) ≡ hart_limit * pages)
      × AreSlots harts 0 (if b then slice_set m.reserved (first_slot at + k) held else m.reserved)
  holds_by m true k at held few there granule is = (
    length-set m.reserved (first_slot at + k) held ∙ is.many_slots,
    slots_set harts 0 (first_slot at + k) m.reserved held
        (own_slot harts (page_number at) k held (ltb-true k hart_limit few) there granule) is.slots,
  )
  holds_by m false k at held few there granule is = (is.many_slots, is.slots)

  holds : (m : Memory) (actor : ActorId) (at : ℕ) (held : Option ℕ) → IsOneOf harts actor → IsGranule held → IsWhole pages harts m
      → IsWhole pages harts (reserving m actor at held)
  holds m (actor_id.Hart k) at held there granule is =
      let left = holds_by m (nat_lt k hart_limit) k at held refl there granule is in
      record { many_bytes = is.many_bytes; many_slots = left.0; slots = left.1 }
  holds m actor_id.Timer at held there granule is = is
  holds m (actor_id.Device k) at held there granule is = is

  writes : (m : Memory) (actor : ActorId) (at n : ℕ) (piece : List ℕ) → length piece ≡ n → is_ram (length m.bytes) at n ≡ true
      → IsWhole pages harts m → IsWhole pages harts (written m actor at piece)
  writes m actor at n piece long ram is =
      let parts = and_parts (nat_le ram_start at) (nat_le (at - ram_start + n) (length m.bytes)) ram in
      let inside : at - ram_start + n ≤ length m.bytes = leb-true (at - ram_start + n) (length m.bytes) parts.1 in
      record {
        many_bytes = put_long m.bytes piece (at - ram_start) (omega (arith, long, inside)) ∙ is.many_bytes;
        many_slots = length-slots_after actor at (length piece) 0 m.reserved ∙ is.many_slots;
        slots = slots_end harts 0 actor at (length piece) m.reserved is.slots;
      }

  stores : (m : Memory) (actor : ActorId) (at n : ℕ) (piece : List ℕ) → length piece ≡ n → is_ram (length m.bytes) at n ≡ true
      → IsOneOf harts actor → IsWhole pages harts m → IsWhole pages harts (stored m actor at piece).1
  stores m actor at n piece long ram there is =
      either (is_granule (granule_of at) (held_by m.reserved (first_slot at) actor))
      (Word 0, reserving (written m actor at piece) actor at None) (Word 1, reserving m actor at None)
      (λ own. holds (written m actor at piece) actor at None there tt (writes m actor at n piece long ram is))
      (λ other. holds m actor at None there tt is)

  pub touch_whole : (m : Memory) (actor : ActorId) (op : Op) → IsOneOf harts actor → IsWhole pages harts m
      → IsWhole pages harts (touch m actor op).1
  touch_whole m actor (Read at len) there is =
      either (nat_le len 64 && is_ram (length m.bytes) at len) (Bytes (read_from m at len), m) (AccessFault, m) (λ ram. is) (λ out. is)
  touch_whole m actor (Write at piece) there is =
      either (is_ram (length m.bytes) at (length piece)) (Done, written m actor at piece) (AccessFault, m)
      (λ ram. writes m actor at (length piece) piece refl ram is) (λ out. is)
  touch_whole m actor (Amo at value kind wide) there is =
      let new : ℕ = amo_value kind wide (word_at m at wide) value in
      either (is_ram (length m.bytes) at (width_of wide)) (Word (word_at m at wide), written m actor at (word_bytes wide new)) (AccessFault, m)
      (λ ram. writes m actor at (width_of wide) (word_bytes wide new) (word_long wide new) ram is) (λ out. is)
  touch_whole m actor (Lr at wide) there is =
      either (is_ram (length m.bytes) at (width_of wide)) (Word (word_at m at wide), reserving m actor at (Some (granule_of at)))
      (AccessFault, m) (λ ram. holds m actor at (Some (granule_of at)) there (granule_small at) is) (λ out. is)
  touch_whole m actor (Sc at value wide) there is =
      either (is_ram (length m.bytes) at (width_of wide)) (stored m actor at (word_bytes wide value)) (AccessFault, m)
      (λ ram. stores m actor at (width_of wide) (word_bytes wide value) (word_long wide value) ram there is) (λ out. is)
  touch_whole m actor op there is = is

-- ---- replies

module _ (m : Memory) (actor : ActorId) where
  ram_by : (at : ℕ) (wide : Bool) (b : Bool) (held : Memory) (old : ℕ) → is_ram (length m.bytes) at (width_of wide) ≡ b
      → IsRamReply (length m.bytes) (Lr at wide) (let given : Reply × Memory = if b then (Word old, held) else (AccessFault, m) in given.0)
  ram_by at wide true held old ram = ram
  ram_by at wide false held old ram = tt

  pub touch_ram : (op : Op) → IsRamReply (length m.bytes) op (touch m actor op).0
  touch_ram (Lr at wide) =
      ram_by at wide (is_ram (length m.bytes) at (width_of wide)) (reserving m actor at (Some (granule_of at))) (word_at m at wide) refl
  touch_ram op = tt

pub booted_whole : (mib harts : ℕ) (loads : Loads) → length (boot_memory mib loads).bytes ≡ bytes_of_mib mib
    → IsWhole (256 * mib) harts (boot_memory mib loads)
unfolding unreserved
booted_whole mib harts loads whole =
    let pages : page_count (bytes_of_mib mib) ≡ 256 * mib = omega arith in record {
      many_bytes = omega (arith, whole);
      many_slots =
          length-replicate {A = Option ℕ} (hart_limit * page_count (bytes_of_mib mib)) None ∙ ap (λ (n : ℕ). hart_limit * n) pages;
      slots = none_reserved harts 0 (hart_limit * page_count (bytes_of_mib mib));
    }
