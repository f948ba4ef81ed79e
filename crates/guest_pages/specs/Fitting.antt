-- What a page replies fits the act.
use Rattle.std.proofs.Common.{◌≡◌, ℕ, ◌+◌, ◌-◌, ◌≤◌, nat_le, Bool, true, false, ◌&&◌, List, length, drop, Some, None, refl, arith}
use Rattle.std.proofs.lemmas.Bool.{eq-eqb, leb-true}
use Rattle.std.proofs.lemmas.List.{length-take-le, length-drop}
use Rattle.vm_types.specs.declared.ids.ActorId.{ActorId}
use Rattle.vm_types.specs.declared.op.Op.{Op}
use Rattle.vm_types.specs.declared.op.Op.TheVariants.{Read, Write, Amo, Lr, Sc}
use Rattle.vm_types.specs.declared.reply.Reply.TheVariants.{Done, Bytes, Word, AccessFault}
use Rattle.vm_types.specs.Fits.{fits}
use Rattle.guest_memory.specs.Amo.{amo_value}
use Rattle.guest_memory.specs.Fitting.{fits_either}
use Rattle.guest_memory.specs.Memory.{is_access}
use Rattle.guest_memory.specs.Reserved.{granule_of, held_by, is_granule}
use Rattle.guest_memory.specs.Words.{width_of, word_bytes}
use Rattle.guest_pages.specs.Pages.{PageValue, page_touch, page_start, page_read, page_word, page_written, page_reserving, page_made, page_stored, is_within}

and_right : (a b : Bool) → (a && b) ≡ true → b ≡ true
and_right true b h = h
and_right false b h = cc

-- a read inside a page gives as many bytes as were asked for
length-page_read : (p : PageValue) (at len : ℕ) → is_within p.number (length p.bytes) at len ≡ true
    → length (page_read p at len) ≡ len
length-page_read p at len inside =
    let o : ℕ = at - page_start p.number in
    let above : Bool = nat_le 1 len && nat_le (page_start p.number) at in
    let room : o + len ≤ length p.bytes = leb-true (o + len) (length p.bytes) (and_right above (nat_le (o + len) (length p.bytes)) inside) in
    length-take-le len (drop o p.bytes) (omega (arith, room, length-drop o p.bytes))

pub page_fits : (p : PageValue) (actor : ActorId) (op : Op) → is_access op ≡ true → fits op (page_touch p actor op).0 ≡ true
page_fits p actor (Read at len) is =
    let inside : Bool = is_within p.number (length p.bytes) at len in
    fits_either (Read at len) (nat_le len 64 && inside) (Bytes (page_read p at len), p) (AccessFault, p)
    (λ test. eq-eqb (length (page_read p at len)) len (length-page_read p at len (and_right (nat_le len 64) inside test)))
    refl
page_fits p actor (Write at piece) is =
    fits_either (Write at piece) (is_within p.number (length p.bytes) at (length piece))
    (Done, page_written p actor at piece) (AccessFault, p) (λ test. refl) refl
page_fits p actor (Amo at value kind wide) is =
    let old : ℕ = page_word p at wide in
    fits_either (Amo at value kind wide) (is_within p.number (length p.bytes) at (width_of wide))
    (Word old, page_written p actor at (word_bytes wide (amo_value kind wide old value))) (AccessFault, p) (λ test. refl) refl
page_fits p actor (Lr at wide) is =
    fits_either (Lr at wide) (is_within p.number (length p.bytes) at (width_of wide))
    (Word (page_word p at wide), page_made (page_reserving p actor (Some (granule_of at)))) (AccessFault, p) (λ test. refl) refl
page_fits p actor (Sc at value wide) is =
    let piece : List ℕ = word_bytes wide value in
    fits_either (Sc at value wide) (is_within p.number (length p.bytes) at (width_of wide))
    (page_stored p actor at piece) (AccessFault, p)
    (λ test. fits_either (Sc at value wide) (is_granule (granule_of at) (held_by p.reserved 0 actor))
    (Word 0, page_reserving (page_written p actor at piece) actor None) (Word 1, page_reserving p actor None)
    (λ held. refl) refl)
    refl
page_fits p actor op is = cc
