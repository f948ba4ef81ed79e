-- No act makes memory longer or shorter.
use Rattle.std.proofs.Common.{◌≡◌, ℕ, ◌+◌, ◌-◌, ◌/◌, ◌≤◌, nat_le, Bool, true, false, cond, ◌&&◌, refl, ap, List, None, length, arith}
use Rattle.std.proofs.lemmas.Bool.{leb-true, and_parts}
use Rattle.vm_types.specs.declared.ids.ActorId.{ActorId}
use Rattle.vm_types.specs.declared.ids.PlaceId.{PlaceId}
use Rattle.vm_types.specs.declared.op.Op.{Op}
use Rattle.vm_types.specs.declared.reply.Reply.{Reply}
use Rattle.guest_memory.specs.Memory.{Memory, read_from, reserving, touch, word_at, written}
use Rattle.guest_memory.specs.Ram.{is_ram, page_size, ram_start}
use Rattle.guest_memory.specs.Reserved.{first_slot, granule_of, held_by, is_granule}
use Rattle.guest_memory.specs.Words.{width_of, word_bytes}
use Rattle.flat_guest.specs.Guest.{whole_pages}
use Rattle.flat_guest.specs.Steps.{memory_after}
use Rattle.guest_memory.proofs.Keeping.{put_long, word_long}

module _ (m : Memory) (actor : ActorId) where
  abbrev IsAsLong : Reply × Memory → Type 0
  IsAsLong left = length left.1.bytes ≡ length m.bytes

  written_long : (at n : ℕ) (piece : List ℕ) → length piece ≡ n → is_ram (length m.bytes) at n ≡ true
      → length (written m actor at piece).bytes ≡ length m.bytes
  written_long at n piece long ram =
      let inside : at - ram_start + n ≤ length m.bytes =
      leb-true (at - ram_start + n) (length m.bytes) (and_parts (nat_le ram_start at) (nat_le (at - ram_start + n) (length m.bytes)) ram).1 in
      put_long m.bytes piece (at - ram_start) (omega (arith, long, inside))

  kept_long : (ram : Bool) (reply : Reply) → IsAsLong (cond ram (reply, m) (Reply.AccessFault, m))
  kept_long true reply = refl
  kept_long false reply = refl

  reserved_long : (ram : Bool) (reply : Reply) (n : Memory) → length n.bytes ≡ length m.bytes
      → IsAsLong (cond ram (reply, n) (Reply.AccessFault, m))
  reserved_long true reply n long = long
  reserved_long false reply n long = refl

  put_by : (ram : Bool) (reply : Reply) (at n : ℕ) (piece : List ℕ) → length piece ≡ n → is_ram (length m.bytes) at n ≡ ram
      → IsAsLong (cond ram (reply, written m actor at piece) (Reply.AccessFault, m))
  put_by true reply at n piece long ram = written_long at n piece long ram
  put_by false reply at n piece long ram = refl

  put_word : (ram : Bool) (reply : Reply) (at : ℕ) (wide : Bool) (word : ℕ) → is_ram (length m.bytes) at (width_of wide) ≡ ram
      → IsAsLong (cond ram (reply, written m actor at (word_bytes wide word)) (Reply.AccessFault, m))
  put_word ram reply at wide word is =
      put_by ram reply at (width_of wide) (word_bytes wide word) (word_long wide word) is

  stored_by : (own ram : Bool) (at n : ℕ) (piece : List ℕ) → length piece ≡ n → is_ram (length m.bytes) at n ≡ ram
      → IsAsLong (cond ram (cond own (Reply.Word 0, reserving (written m actor at piece) actor at None)
      (Reply.Word 1, reserving m actor at None)) (Reply.AccessFault, m))
  stored_by true true at n piece long ram = written_long at n piece long ram
  stored_by false true at n piece long ram = refl
  stored_by own false at n piece long ram = refl

  pub touch_long : (op : Op) → IsAsLong (touch m actor op)
  touch_long (Op.Read at len) = kept_long (nat_le len 64 && is_ram (length m.bytes) at len) (Reply.Bytes (read_from m at len))
  touch_long (Op.Write at piece) =
      put_by (is_ram (length m.bytes) at (length piece)) Reply.Done at (length piece) piece refl refl
  touch_long (Op.Amo at value kind wide) =
      put_word (is_ram (length m.bytes) at (width_of wide)) (Reply.Word (word_at m at wide)) at wide _ refl
  touch_long (Op.Lr at wide) =
      reserved_long (is_ram (length m.bytes) at (width_of wide)) (Reply.Word (word_at m at wide)) _ refl
  touch_long (Op.Sc at value wide) =
      stored_by (is_granule (granule_of at) (held_by m.reserved (first_slot at) actor)) (is_ram (length m.bytes) at (width_of wide))
      at (width_of wide) (word_bytes wide value) (word_long wide value) refl
  touch_long (Op.Port port act) = refl
  touch_long (Op.Board act) = refl
  touch_long (Op.Out act) = refl
  touch_long Op.Idle = refl

pub memory_long : (place : PlaceId) (m : Memory) (actor : ActorId) (op : Op)
    → length (memory_after place m actor op).bytes ≡ length m.bytes
memory_long (PlaceId.Page i) m actor op = touch_long m actor op
memory_long (PlaceId.Port k) m actor op = refl
memory_long PlaceId.Board m actor op = refl
memory_long PlaceId.Out m actor op = refl

pub pages_kept : (place : PlaceId) (m : Memory) (actor : ActorId) (op : Op)
    → whole_pages (memory_after place m actor op) ≡ whole_pages m
pages_kept place m actor op = ap (λ (n : ℕ). n / page_size) (memory_long place m actor op)
