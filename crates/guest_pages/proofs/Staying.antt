-- An act leaves a page a page.
use Rattle.std.proofs.Common.{◌≡◌, ℕ, ◌+◌, ◌*◌, ◌-◌, ◌%◌, ◌<◌, ◌≤◌, nat_le, nat_lt, Bool, true, false, cond, ◌&&◌, List, [], ◌∷◌, Option, Some, None, length, set, refl, ap, ◌∙◌, arith, length-set}
use Rattle.std.proofs.lemmas.Bool.{and_parts, leb-true}
use Rattle.vm_types.specs.declared.ids.ActorId.{ActorId}
use Rattle.vm_types.specs.declared.ids.ActorId.TheVariants.{Hart}
use Rattle.vm_types.specs.declared.op.Op.{Op}
use Rattle.vm_types.specs.declared.op.Op.TheVariants.{Read, Write, Amo, Lr, Sc}
use Rattle.vm_types.specs.declared.reply.Reply.{Reply}
use Rattle.vm_types.specs.declared.reply.Reply.TheVariants.{Done, Bytes, Word, AccessFault}
use Rattle.guest_memory.specs.Amo.{amo_value}
use Rattle.guest_memory.specs.Reserved.{hart_limit, granule_of, held_by, is_granule}
use Rattle.guest_memory.specs.Words.{width_of, word_bytes}
use Rattle.guest_memory.proofs.Ending.{length-slots_after}
use Rattle.guest_memory.proofs.Keeping.{put_long, word_long}
use Rattle.guest_pages.specs.Pages.{PageValue, page_start, is_within, page_read, page_word, page_written, page_reserving, page_touch, page_made, unmarked, patched, page_holding}
use Rattle.guest_pages.specs.Flat.{AreInside, IsPage}
use Rattle.guest_pages.proofs.Ending.{inside_after, inside_set}

module _ (i : ℕ) (p : PageValue) (actor : ActorId) (is : IsPage i p) where
  pub written_stays : (at : ℕ) (piece : List ℕ) → is_within p.number (length p.bytes) at (length piece) ≡ true → IsPage i (page_written p actor at piece)
  written_stays at piece within = record {
    numbered = is.numbered;
    whole = put_long p.bytes piece (at - page_start p.number) (leb-true (at - page_start p.number + length piece) (length p.bytes) (and_parts (nat_le 1 (length piece) && nat_le (page_start p.number) at) (nat_le (at - page_start p.number + length piece) (length p.bytes)) within).1) ∙ is.whole;
    slotted = length-slots_after actor at (length piece) (hart_limit * p.number) p.reserved ∙ is.slotted;
    inside = inside_after actor at (length piece) (hart_limit * p.number) p.reserved is.inside;
  }

  set_stays : (k : ℕ) (held : Option ℕ) → AreInside (held ∷ []) → IsPage i (record p { reserved = set p.reserved k held })
  set_stays k held fits = record {
    numbered = is.numbered;
    whole = is.whole;
    slotted = length-set p.reserved k held ∙ is.slotted;
    inside = inside_set p.reserved k held fits is.inside;
  }

  pub reserving_stays : (by : ActorId) (held : Option ℕ) → AreInside (held ∷ []) → IsPage i (page_reserving p by held)
  reserving_stays (Hart k) held fits = by_test (nat_lt k hart_limit)
    where
      by_test : (b : Bool) → IsPage i (record p { reserved = cond b (set p.reserved (0 + k) held) p.reserved })
      by_test true = set_stays (0 + k) held fits
      by_test false = is
  reserving_stays by held fits = is

made_stays : (i : ℕ) (p : PageValue) → IsPage i p → IsPage i (page_made p)
made_stays i p is = record { numbered = is.numbered; whole = is.whole; slotted = is.slotted; inside = is.inside }

granule_fits : (at : ℕ) → AreInside (Some (granule_of at) ∷ [])
granule_fits at = (omega arith, tt)

pub page_stays : (i : ℕ) (p : PageValue) (actor : ActorId) (op : Op) → IsPage i p → IsPage i (page_touch p actor op).1
page_stays i p actor (Read at len) is = read_stays (nat_le len 64 && is_within p.number (length p.bytes) at len)
  where
    read_stays : (b : Bool) → IsPage i (let answer : Reply × PageValue = cond b (Bytes (page_read p at len), p) (AccessFault, p) in answer.1)
    read_stays true = is
    read_stays false = is
page_stays i p actor (Write at piece) is = write_stays (is_within p.number (length p.bytes) at (length piece)) refl
  where
    write_stays : (b : Bool) → is_within p.number (length p.bytes) at (length piece) ≡ b → IsPage i (let answer : Reply × PageValue = cond b (Done, page_written p actor at piece) (AccessFault, p) in answer.1)
    write_stays true e = written_stays i p actor is at piece e
    write_stays false e = is
page_stays i p actor (Amo at value kind wide) is = amo_stays (is_within p.number (length p.bytes) at (width_of wide)) refl
  where
    amo_stays : (b : Bool) → is_within p.number (length p.bytes) at (width_of wide) ≡ b → IsPage i (let answer : Reply × PageValue = cond b (Word (page_word p at wide), page_written p actor at (word_bytes wide (amo_value kind wide (page_word p at wide) value))) (AccessFault, p) in answer.1)
    amo_stays true e = written_stays i p actor is at (word_bytes wide (amo_value kind wide (page_word p at wide) value)) (ap (is_within p.number (length p.bytes) at) (word_long wide (amo_value kind wide (page_word p at wide) value)) ∙ e)
    amo_stays false e = is
page_stays i p actor (Lr at wide) is = lr_stays (is_within p.number (length p.bytes) at (width_of wide))
  where
    lr_stays : (b : Bool) → IsPage i (let answer : Reply × PageValue = cond b (Word (page_word p at wide), page_made (page_reserving p actor (Some (granule_of at)))) (AccessFault, p) in answer.1)
    lr_stays true = made_stays i (page_reserving p actor (Some (granule_of at))) (reserving_stays i p actor is actor (Some (granule_of at)) (granule_fits at))
    lr_stays false = is
page_stays i p actor (Sc at value wide) is = sc_stays (is_within p.number (length p.bytes) at (width_of wide)) (is_granule (granule_of at) (held_by p.reserved 0 actor)) refl
  where
    sc_stays : (b c : Bool) → is_within p.number (length p.bytes) at (width_of wide) ≡ b
        → IsPage i (let answer : Reply × PageValue = cond b (cond c (Word 0, page_reserving (page_written p actor at (word_bytes wide value)) actor None) (Word 1, page_reserving p actor None)) (AccessFault, p) in answer.1)
    sc_stays true true e =
        reserving_stays i (page_written p actor at (word_bytes wide value)) actor
        (written_stays i p actor is at (word_bytes wide value) (ap (is_within p.number (length p.bytes) at) (word_long wide value) ∙ e)) actor None tt
    sc_stays true false e = reserving_stays i p actor is actor None tt
    sc_stays false c e = is
page_stays i p actor op is = is

-- what is no act leaves it one too
pub unmarked_stays : (i : ℕ) (p : PageValue) → IsPage i p → IsPage i (unmarked p)
unmarked_stays i p is = record { numbered = is.numbered; whole = is.whole; slotted = is.slotted; inside = is.inside }

pub patched_stays : (i : ℕ) (p : PageValue) (offset : ℕ) (piece : List ℕ) (made : Bool) → offset + length piece ≤ 4096 → IsPage i p → IsPage i (record (patched offset piece p) { made = made })
patched_stays i p offset piece made room is =
    let whole = is.whole in
    record { numbered = is.numbered; whole = put_long p.bytes piece offset (omega (arith, whole)) ∙ whole; slotted = is.slotted; inside = is.inside }

pub holding_stays : (i : ℕ) (p : PageValue) (hart offset : ℕ) → offset < 4096 → offset % 8 ≡ 0 → IsPage i p → IsPage i (page_holding hart offset p)
holding_stays i p hart offset small aligned is = record {
  numbered = is.numbered;
  whole = is.whole;
  slotted = length-set p.reserved hart (Some offset) ∙ is.slotted;
  inside = inside_set p.reserved hart (Some offset) (omega arith, tt) is.inside;
}
