-- An act on the page that has its bytes is the act on the one memory.
use Rattle.std.proofs.Common.{◌≡◌, ℕ, zero, suc, ◌+◌, ◌*◌, ◌-◌, ◌<◌, nat_le, nat_lt, Bool, true, false, cond, ◌&&◌, List, [], ◌∷◌, ◌++◌, Option, Some, None, length, take, drop, get_or, set, refl, sym, ap, ◌∙◌, subst, arith}
use Rattle.std.specs.List.{flat_map}
use Rattle.std.proofs.lemmas.Bool.{ltb-true}
use Rattle.std.proofs.lemmas.List.{set-get_or, set-set, get_or-set_same, length-set}
use Rattle.vm_types.specs.declared.ids.ActorId.{ActorId}
use Rattle.vm_types.specs.declared.ids.ActorId.TheVariants.{Hart}
use Rattle.vm_types.specs.declared.ids.PlaceId.{PlaceId}
use Rattle.vm_types.specs.declared.op.Op.{Op}
use Rattle.vm_types.specs.declared.op.Op.TheVariants.{Read, Write, Amo, Lr, Sc}
use Rattle.vm_types.specs.declared.reply.Reply.{Reply}
use Rattle.vm_types.specs.declared.reply.Reply.TheVariants.{Done, Bytes, Word, AccessFault}
use Rattle.guest_memory.specs.Amo.{amo_value}
use Rattle.guest_memory.specs.Memory.{Memory, put_at, touch, read_from, word_at, written, reserving, stored}
use Rattle.guest_memory.specs.Ram.{ram_start, is_ram}
use Rattle.guest_memory.specs.Reserved.{hart_limit, first_slot, granule_of, held_by, holding, is_granule, slots_after}
use Rattle.guest_memory.specs.Route.{access_place}
use Rattle.guest_memory.specs.Words.{width_of, word_of, word_bytes}
use Rattle.guest_memory.proofs.Keeping.{word_long}
use Rattle.guest_pages.specs.Pages.{PageValue, page_start, is_within, page_read, page_word, page_written, page_reserving, page_made, page_touch, flat_of}
use Rattle.guest_pages.specs.Flat.{IsPage, ArePages}
use Rattle.guest_pages.proofs.Here.{IsHere, here, within, page_at, pages_set}
use Rattle.guest_pages.proofs.Joined.{read_joined, put_joined}
use Rattle.guest_pages.proofs.Slotted.{get_joined, set_joined, ended_joined}
use Rattle.guest_pages.proofs.Staying.{written_stays}

-- the reply is the flat one, and the pages after are the flat memory after
pub record Touches (pages : List PageValue) (i : ℕ) (answer : Reply × PageValue) (flat : Reply × Memory) : Type 0 where
  pub reply : answer.0 ≡ flat.0
  pub memory : flat_of (set pages i answer.1) ≡ flat.1

same_pages : (pages : List PageValue) (i : ℕ) (d : PageValue) → flat_of (set pages i (get_or pages i d)) ≡ flat_of pages
same_pages pages i d = ap flat_of (set-get_or pages i d)

-- two tests that hold, and what is done then
both_touch : (pages : List PageValue) (i : ℕ) (p q : PageValue) (m : Memory) (one other : Reply) (s t : Bool) → s ≡ true → t ≡ true → one ≡ other → flat_of (set pages i q) ≡ m
    → Touches pages i (cond s (one, q) (AccessFault, p)) (cond t (other, m) (AccessFault, flat_of pages))
both_touch pages i p q m one other true true e f same is = record { reply = same; memory = is }
both_touch pages i p q m one other true false e f same is = cc
both_touch pages i p q m one other false t e f same is = cc

read_touches : (pages : List PageValue) (i : ℕ) (d : PageValue) (b s t : Bool) (xs ys : List ℕ) → s ≡ true → t ≡ true → xs ≡ ys
    → Touches pages i (cond (b && s) (Bytes xs, get_or pages i d) (AccessFault, get_or pages i d)) (cond (b && t) (Bytes ys, flat_of pages) (AccessFault, flat_of pages))
read_touches pages i d true true true xs ys e f same = record { reply = ap Bytes same; memory = same_pages pages i d }
read_touches pages i d false true true xs ys e f same = record { reply = refl; memory = same_pages pages i d }
read_touches pages i d b true false xs ys e f same = cc
read_touches pages i d b false t xs ys e f same = cc

stored_touches : (pages : List PageValue) (i : ℕ) (p q r : PageValue) (m n : Memory) (s t b c : Bool) → s ≡ true → t ≡ true → b ≡ c → flat_of (set pages i q) ≡ m → flat_of (set pages i r) ≡ n
    → Touches pages i (cond s (cond b (Word 0, q) (Word 1, r)) (AccessFault, p)) (cond t (cond c (Word 0, m) (Word 1, n)) (AccessFault, flat_of pages))
stored_touches pages i p q r m n true true true true e f same stored failed = record { reply = refl; memory = stored }
stored_touches pages i p q r m n true true false false e f same stored failed = record { reply = refl; memory = failed }
stored_touches pages i p q r m n true true true false e f same stored failed = cc
stored_touches pages i p q r m n true true false true e f same stored failed = cc
stored_touches pages i p q r m n true false b c e f same stored failed = cc
stored_touches pages i p q r m n false t b c e f same stored failed = cc

fault_touches : (pages : List PageValue) (i : ℕ) (d : PageValue) → Touches pages i (AccessFault, get_or pages i d) (AccessFault, flat_of pages)
fault_touches pages i d = record { reply = refl; memory = same_pages pages i d }

-- another page with the same bytes
same_bytes : (pages : List PageValue) (i : ℕ) (d q : PageValue) → i < length pages → q.bytes ≡ (get_or pages i d).bytes → flat_map (λ p. p.bytes) (set pages i q) ≡ flat_map (λ p. p.bytes) pages
same_bytes [] i d q lt same = absurd (omega arith)
same_bytes (p ∷ ps) zero d q lt same = ap (λ (l : List ℕ). l ++ flat_map (λ p. p.bytes) ps) same
same_bytes (p ∷ ps) (suc i) d q lt same = ap (λ (l : List ℕ). p.bytes ++ l) (same_bytes ps i d q (omega arith) same)

-- a page that is made is another one with the same bytes and reservations
made_joined : {A : Type 0} (part : PageValue → List A) (pages : List PageValue) (i : ℕ) (p q : PageValue) → part p ≡ part q → flat_map part (set pages i p) ≡ flat_map part (set pages i q)
made_joined part [] i p q same = refl
made_joined part (x ∷ xs) zero p q same = ap (λ l. l ++ flat_map part xs) same
made_joined part (x ∷ xs) (suc i) p q same = ap (λ l. part x ++ l) (made_joined part xs i p q same)

pub made_flat : (pages : List PageValue) (i : ℕ) (q : PageValue) → flat_of (set pages i (page_made q)) ≡ flat_of (set pages i q)
made_flat pages i q =
    let bytes = made_joined (λ (p : PageValue). p.bytes) pages i (page_made q) q refl in
    let reserved = made_joined (λ (p : PageValue). p.reserved) pages i (page_made q) q refl in
    λ k. record { bytes = bytes k; reserved = reserved k }

first_is : (size i at len : ℕ) → IsHere size i at len → first_slot at ≡ 32 * i
first_is size i at len h =
    let some = h.some in
    let from = h.from in
    let to = h.to in
    omega arith

module _ (pages : List PageValue) (i : ℕ) (d : PageValue) (are : ArePages 0 pages) (lt : i < length pages) where
  abbrev page : PageValue
  page = get_or pages i d

  is_page : IsPage i page
  is_page = let e : 0 + i ≡ i = omega arith in subst (λ (k : ℕ). IsPage k page) e (page_at 0 pages i d are lt)

  -- the offset in memory is that of the page and that in the page
  abbrev inner : ℕ → ℕ
  inner at = at - page_start i

  offsets : (at len : ℕ) → IsHere (length (flat_of pages).bytes) i at len → at - ram_start ≡ 4096 * i + inner at
  offsets at len h = let from = h.from in omega arith

  number_is : (at : ℕ) → at - page_start page.number ≡ inner at
  number_is at = ap (λ (k : ℕ). at - page_start k) is_page.numbered

  is_here_within : (at len : ℕ) → IsHere (length (flat_of pages).bytes) i at len → is_within page.number (length page.bytes) at len ≡ true
  is_here_within at len h = ap (λ (k : ℕ). is_within k (length page.bytes) at len) is_page.numbered ∙ within (length (flat_of pages).bytes) i at len (length page.bytes) is_page.whole h

  read_is : (at len : ℕ) → IsHere (length (flat_of pages).bytes) i at len → page_read page at len ≡ read_from (flat_of pages) at len
  read_is at len h =
      let from = h.from in
      let to = h.to in
      ap (λ (o : ℕ). take len (drop o page.bytes)) (number_is at)
      ∙ sym (read_joined 0 pages i (inner at) len d are lt (omega arith))
      ∙ ap (λ (o : ℕ). take len (drop o (flat_of pages).bytes)) (sym (offsets at len h))

  written_is : (actor : ActorId) (at : ℕ) (piece : List ℕ) → IsHere (length (flat_of pages).bytes) i at (length piece) → flat_of (set pages i (page_written page actor at piece)) ≡ written (flat_of pages) actor at piece
  written_is actor at piece h =
      let from = h.from in
      let to = h.to in
      let q = page_written page actor at piece in
      let bytes : (flat_of (set pages i q)).bytes ≡ put_at (flat_of pages).bytes (at - ram_start) piece =
      sym (put_joined 0 pages i (inner at) piece d q are lt (omega arith) (ap (λ (o : ℕ). put_at page.bytes o piece) (number_is at)))
      ∙ ap (λ (o : ℕ). put_at (flat_of pages).bytes o piece) (sym (offsets at (length piece) h)) in
      let reserved : (flat_of (set pages i q)).reserved ≡ slots_after actor at (length piece) 0 (flat_of pages).reserved =
      sym (ended_joined actor i at (length piece) from to 0 pages i d q are (omega arith) lt (ap (λ (k : ℕ). slots_after actor at (length piece) (32 * k) page.reserved) is_page.numbered)) in
      λ k. record { bytes = bytes k; reserved = reserved k }

  held_is : (actor : ActorId) (at : ℕ) → first_slot at ≡ 32 * i → held_by page.reserved 0 actor ≡ held_by (flat_of pages).reserved (first_slot at) actor
  held_is (Hart k) at first = by_test (nat_lt k hart_limit) refl
    where
      by_test : (b : Bool) → nat_lt k hart_limit ≡ b → cond b (get_or page.reserved (0 + k) None) None ≡ cond b (get_or (flat_of pages).reserved (first_slot at + k) None) None
      by_test true e =
          let small : k < 32 = ltb-true k 32 e in
          ap (λ (j : ℕ). get_or page.reserved j None) (omega arith)
          ∙ sym (get_joined 0 pages i k d None are lt small)
          ∙ ap (λ (j : ℕ). get_or (flat_of pages).reserved (j + k) None) (sym first)
      by_test false e = refl
  held_is actor at first = refl

  reserving_is : (actor : ActorId) (at : ℕ) (held : Option ℕ) → first_slot at ≡ 32 * i → flat_of (set pages i (page_reserving page actor held)) ≡ reserving (flat_of pages) actor at held
  reserving_is actor at held first =
      let q = page_reserving page actor held in
      let bytes = same_bytes pages i d q lt refl in
      let reserved = slots_are actor in
      λ k. record { bytes = bytes k; reserved = reserved k }
    where
      hart_slots : (k : ℕ) (b : Bool) → nat_lt k hart_limit ≡ b
          → flat_map (λ p. p.reserved) (set pages i (record page { reserved = cond b (set page.reserved (0 + k) held) page.reserved })) ≡ cond b (set (flat_of pages).reserved (first_slot at + k) held) (flat_of pages).reserved
      hart_slots k true e =
          let small : k < 32 = ltb-true k 32 e in
          let q : PageValue = record page { reserved = set page.reserved (0 + k) held } in
          sym (set_joined 0 pages i k held d q are lt small (ap (λ (j : ℕ). set page.reserved j held) (omega arith)))
          ∙ ap (λ (j : ℕ). set (flat_of pages).reserved (j + k) held) (sym first)
      hart_slots k false e = ap (λ (l : List PageValue). flat_map (λ p. p.reserved) l) (set-get_or pages i d)

      slots_are : (by : ActorId) → (flat_of (set pages i (page_reserving page by held))).reserved ≡ holding (flat_of pages).reserved (first_slot at) by held
      slots_are (Hart k) = hart_slots k (nat_lt k hart_limit) refl
      slots_are by = ap (λ (l : List PageValue). flat_map (λ p. p.reserved) l) (set-get_or pages i d)

-- a write and then the end of the writer's own reservation
both_are : (pages : List PageValue) (i : ℕ) (d : PageValue) (actor : ActorId) (at : ℕ) (piece : List ℕ) → ArePages 0 pages → i < length pages → IsHere (length (flat_of pages).bytes) i at (length piece)
    → flat_of (set pages i (page_reserving (page_written (get_or pages i d) actor at piece) actor None)) ≡ reserving (written (flat_of pages) actor at piece) actor at None
both_are pages i d actor at piece are lt h =
    let q = page_written (get_or pages i d) actor at piece in
    let more : List PageValue = set pages i q in
    let at_i : get_or more i d ≡ q = get_or-set_same pages i q d lt in
    let still : ArePages 0 more = pages_set 0 pages i q are (let e : i ≡ 0 + i = omega arith in subst (λ (k : ℕ). IsPage k q) e (written_stays i (get_or pages i d) actor (is_page pages i d are lt) at piece (is_here_within pages i d are lt at (length piece) h))) in
    let below : i < length more = omega (arith, lt, length-set pages i q) in
    let first = first_is (length (flat_of pages).bytes) i at (length piece) h in
    ap flat_of (sym (set-set pages i q (page_reserving q actor None)))
    ∙ ap (λ (p : PageValue). flat_of (set more i (page_reserving p actor None))) (sym at_i)
    ∙ reserving_is more i d still below actor at None first
    ∙ ap (λ (m : Memory). reserving m actor at None) (written_is pages i d are lt actor at piece h)

module _ (pages : List PageValue) (i : ℕ) (d : PageValue) (are : ArePages 0 pages) (lt : i < length pages) where
  abbrev here_page : PageValue
  here_page = get_or pages i d

  pub touches : (actor : ActorId) (op : Op) → access_place (length (flat_of pages).bytes) op ≡ PlaceId.Page i → Touches pages i (page_touch here_page actor op) (touch (flat_of pages) actor op)
  touches actor (Read at len) place =
      let h = here (length (flat_of pages).bytes) at len i place in
      read_touches pages i d (nat_le len 64) (is_within here_page.number (length here_page.bytes) at len) (is_ram (length (flat_of pages).bytes) at len) (page_read here_page at len) (read_from (flat_of pages) at len) (is_here_within pages i d are lt at len h) h.ram (read_is pages i d are lt at len h)
  touches actor (Write at piece) place =
      let h = here (length (flat_of pages).bytes) at (length piece) i place in
      both_touch pages i here_page (page_written here_page actor at piece) (written (flat_of pages) actor at piece) Done Done (is_within here_page.number (length here_page.bytes) at (length piece)) (is_ram (length (flat_of pages).bytes) at (length piece)) (is_here_within pages i d are lt at (length piece) h) h.ram refl
      (written_is pages i d are lt actor at piece h)
  touches actor (Amo at value kind wide) place =
      let h = here (length (flat_of pages).bytes) at (width_of wide) i place in
      let word : page_word here_page at wide ≡ word_at (flat_of pages) at wide = ap (word_of wide) (read_is pages i d are lt at (width_of wide) h) in
      let new : ℕ = amo_value kind wide (page_word here_page at wide) value in
      let long : width_of wide ≡ length (word_bytes wide new) = sym (word_long wide new) in
      both_touch pages i here_page (page_written here_page actor at (word_bytes wide new)) (written (flat_of pages) actor at (word_bytes wide (amo_value kind wide (word_at (flat_of pages) at wide) value)))
      (Word (page_word here_page at wide)) (Word (word_at (flat_of pages) at wide)) (is_within here_page.number (length here_page.bytes) at (width_of wide)) (is_ram (length (flat_of pages).bytes) at (width_of wide)) (is_here_within pages i d are lt at (width_of wide) h) h.ram (ap Word word)
      (written_is pages i d are lt actor at (word_bytes wide new) (subst (λ (len : ℕ). IsHere (length (flat_of pages).bytes) i at len) long h)
      ∙ ap (λ (w : ℕ). written (flat_of pages) actor at (word_bytes wide (amo_value kind wide w value))) word)
  touches actor (Lr at wide) place =
      let h = here (length (flat_of pages).bytes) at (width_of wide) i place in
      let first = first_is (length (flat_of pages).bytes) i at (width_of wide) h in
      both_touch pages i here_page (page_made (page_reserving here_page actor (Some (granule_of at)))) (reserving (flat_of pages) actor at (Some (granule_of at)))
      (Word (page_word here_page at wide)) (Word (word_at (flat_of pages) at wide)) (is_within here_page.number (length here_page.bytes) at (width_of wide)) (is_ram (length (flat_of pages).bytes) at (width_of wide)) (is_here_within pages i d are lt at (width_of wide) h) h.ram
      (ap (λ (bytes : List ℕ). Word (word_of wide bytes)) (read_is pages i d are lt at (width_of wide) h))
      (made_flat pages i (page_reserving here_page actor (Some (granule_of at)))
      ∙ reserving_is pages i d are lt actor at (Some (granule_of at)) first)
  touches actor (Sc at value wide) place =
      let h = here (length (flat_of pages).bytes) at (width_of wide) i place in
      let first = first_is (length (flat_of pages).bytes) i at (width_of wide) h in
      let long : width_of wide ≡ length (word_bytes wide value) = sym (word_long wide value) in
      stored_touches pages i here_page (page_reserving (page_written here_page actor at (word_bytes wide value)) actor None) (page_reserving here_page actor None)
      (reserving (written (flat_of pages) actor at (word_bytes wide value)) actor at None) (reserving (flat_of pages) actor at None)
      (is_within here_page.number (length here_page.bytes) at (width_of wide)) (is_ram (length (flat_of pages).bytes) at (width_of wide))
      (is_granule (granule_of at) (held_by here_page.reserved 0 actor)) (is_granule (granule_of at) (held_by (flat_of pages).reserved (first_slot at) actor))
      (is_here_within pages i d are lt at (width_of wide) h) h.ram (ap (is_granule (granule_of at)) (held_is pages i d are lt actor at first))
      (both_are pages i d actor at (word_bytes wide value) are lt (subst (λ (len : ℕ). IsHere (length (flat_of pages).bytes) i at len) long h))
      (reserving_is pages i d are lt actor at None first)
  touches actor op place = fault_touches pages i d
