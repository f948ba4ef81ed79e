-- The page that has the bytes of a word, and the acts on it.
use Rattle.std.proofs.Common.{◌≡◌, ℕ, ◌+◌, ◌*◌, ◌-◌, ◌/◌, ◌%◌, ◌<◌, ◌≤◌, nat_le, Bool, true, false, cond, ◌&&◌, List, length, take, drop, get_or, set, refl, sym, ap, ◌∙◌, subst, arith, ◌⊎◌, inl, inr}
use Rattle.std.proofs.lemmas.Bool.{le-leb}
use Rattle.vm_types.specs.declared.ids.ActorId.{ActorId}
use Rattle.vm_types.specs.declared.ids.PlaceId.{PlaceId}
use Rattle.vm_types.specs.declared.reply.Reply.{Reply}
use Rattle.vm_types.specs.declared.reply.Reply.TheVariants.{Done, Bytes, AccessFault}
use Rattle.le_fields.specs.Fields.{bytes_of}
use Rattle.le_fields.proofs.Values.{long}
use Rattle.rv_rows.specs.declared.memory.Width.{Width}
use Rattle.rv_rows.specs.Loads.{width_bytes}
use Rattle.guest_memory.specs.Ram.{ram_start, page_size, page_offset, is_ram}
use Rattle.guest_memory.specs.Route.{page_of}
use Rattle.guest_pages.specs.Pages.{PageValue, is_within, page_start, page_read, page_written, page_touch, flat_of, marks_of}
use Rattle.guest_pages.specs.Marks.{marks_after}
use Rattle.guest_pages.specs.Flat.{IsPage, ArePages}
use Rattle.guest_pages.specs.Words.{read_of, write_of, at_place, served, pages_at, place_among}
use Rattle.guest_pages.proofs.Here.{here, within, page_at}
use Rattle.guest_pages.proofs.Marking.{acted_marks}
use Rattle.guest_pages.proofs.Sets.{act_stays, act_reply, act_memory, act_pages}

pub found : (size n at len : ℕ) → size ≡ 4096 * n → ram_start ≤ at → 1 ≤ len → (at - ram_start) / 4096 < n → (at - ram_start) % 4096 + len ≤ 4096
    → page_of size at len ≡ PlaceId.Page ((at - ram_start) / 4096)
found size n at len whole start some below inside =
    let a : nat_le 1 len ≡ true = le-leb 1 len some in
    let b : nat_le ram_start at ≡ true = le-leb ram_start at start in
    let c : nat_le (at - ram_start + len) size ≡ true = le-leb (at - ram_start + len) size (omega arith) in
    let d : nat_le ((at - ram_start) % 4096 + len) 4096 ≡ true = le-leb ((at - ram_start) % 4096 + len) 4096 inside in
    rw (a, b, c, d) refl

-- the word at most 4,092 bytes behind where a page begins
pub found_behind : (size n number at : ℕ) → size ≡ 4096 * n → number < n → page_start number ≤ at → at ≤ page_start number + 4092
    → page_of size at 4 ≡ PlaceId.Page number
found_behind size n number at whole there from to =
    let same : (at - ram_start) / 4096 ≡ number = omega arith in
    found size n at 4 whole (omega arith) (omega arith) (omega arith) (omega arith) ∙ ap PlaceId.Page same

pub missed : (size n at len : ℕ) → size ≡ 4096 * n → 1 ≤ len → (n ≤ (at - ram_start) / 4096) ⊎ (4096 < (at - ram_start) % 4096 + len)
    → page_of size at len ≡ PlaceId.Out
missed size n at len whole some out = by_test (nat_le 1 len && is_ram size at len && nat_le (page_offset at + len) page_size) refl
  where
    by_test : (t : Bool) → (nat_le 1 len && is_ram size at len && nat_le (page_offset at + len) page_size) ≡ t
        → cond t (PlaceId.Page ((at - ram_start) / 4096)) PlaceId.Out ≡ PlaceId.Out
    by_test false e = refl
    by_test true e =
        let place : page_of size at len ≡ PlaceId.Page ((at - ram_start) / 4096) = ap (λ (t : Bool). cond t (PlaceId.Page ((at - ram_start) / 4096)) PlaceId.Out) e in
        let h = here size at len ((at - ram_start) / 4096) place in
        absurd (beyond out h.from h.to h.below)
      where
        beyond : (n ≤ (at - ram_start) / 4096) ⊎ (4096 < (at - ram_start) % 4096 + len) → ram_start + 4096 * ((at - ram_start) / 4096) ≤ at → at + len ≤ ram_start + 4096 * ((at - ram_start) / 4096) + 4096 → at - ram_start + len ≤ size → ⊥
        beyond (inl past) from to below = omega arith
        beyond (inr over) from to below = omega arith

few : (width : Width) → nat_le (width_bytes width) 64 ≡ true
few Width.Byte = refl
few Width.Half = refl
few Width.Word = refl
few Width.Double = refl

-- a word that is written is where one of this width is found
pub word_place : (value : List PageValue) (i at word : ℕ) (width : Width) → page_of (length (flat_of value).bytes) at (width_bytes width) ≡ PlaceId.Page i
    → place_among value (write_of width at word) ≡ PlaceId.Page i
word_place value i at word width found_at = ap (λ (len : ℕ). page_of (length (flat_of value).bytes) at len) (long (width_bytes width) word) ∙ found_at

module _ (value pages : List PageValue) (i : ℕ) (old : PageValue) (view : value ≡ pages) (are : ArePages 0 pages) (lt : i < length value) (was : old ≡ get_or pages i old) where
  below : i < length pages
  below = let e = ap length view in omega arith

  is_page : IsPage i old
  is_page = let e : 0 + i ≡ i = omega arith in subst (λ (k : ℕ). IsPage k old) e (subst (IsPage (0 + i)) (sym was) (page_at 0 pages i old are below))

  is_inside : (n at len : ℕ) → n ≡ 4096 → page_of (length (flat_of value).bytes) at len ≡ PlaceId.Page i → is_within old.number n at len ≡ true
  is_inside n at len whole place =
      ap (λ (k : ℕ). is_within k n at len) is_page.numbered
      ∙ within (length (flat_of value).bytes) i at len n whole (here (length (flat_of value).bytes) at len i place)

  pub is_in_page : (at len : ℕ) → page_of (length (flat_of value).bytes) at len ≡ PlaceId.Page i → is_within old.number 4096 at len ≡ true
  is_in_page at len place = is_inside 4096 at len refl place

  -- what stands at an offset is what is read there
  pub offset_read : (at offset len : ℕ) → offset ≡ at - page_start i → take len (drop offset old.bytes) ≡ page_read old at len
  offset_read at offset len is =
      ap (λ (k : ℕ). take len (drop k old.bytes)) (is ∙ ap (λ (k : ℕ). at - page_start k) (sym is_page.numbered))

  pub word_read : (at word : ℕ) (width : Width) → page_of (length (flat_of value).bytes) at (width_bytes width) ≡ PlaceId.Page i → bytes_of (width_bytes width) word ≡ page_read old at (width_bytes width)
      → (actor : ActorId) → Bytes (bytes_of (width_bytes width) word) ≡ (served value actor (read_of width at)).0
  word_read at word width place is actor =
      let op = read_of width at in
      let inside = is_inside (length old.bytes) at (width_bytes width) is_page.whole place in
      let touched : Bytes (bytes_of (width_bytes width) word) ≡ (page_touch old actor op).0 =
      ap Bytes is ∙ sym (answered (nat_le (width_bytes width) 64) (is_within old.number (length old.bytes) at (width_bytes width)) (few width) inside) in
      act_reply value pages i actor op old (page_touch old actor op).1 view are lt was refl (Bytes (bytes_of (width_bytes width) word)) place touched
      ∙ sym (ap (λ (p : PlaceId). (at_place p (flat_of value) actor op).0) place)
    where
      answered : (s t : Bool) → s ≡ true → t ≡ true → (let answer : Reply × PageValue = cond (s && t) (Bytes (page_read old at (width_bytes width)), old) (AccessFault, old) in answer.0) ≡ Bytes (page_read old at (width_bytes width))
      answered true true e f = refl
      answered true false e f = cc
      answered false t e f = cc

  module _ (new : PageValue) (writer : ActorId) (at word : ℕ) (width : Width) (found_at : page_of (length (flat_of value).bytes) at (width_bytes width) ≡ PlaceId.Page i) (is : new ≡ page_written old writer at (bytes_of (width_bytes width) word)) where
    abbrev piece : List ℕ
    piece = bytes_of (width_bytes width) word

    place : page_of (length (flat_of value).bytes) at (length piece) ≡ PlaceId.Page i
    place = ap (λ (len : ℕ). page_of (length (flat_of value).bytes) at len) (long (width_bytes width) word) ∙ found_at

    now : new ≡ (page_touch old writer (write_of width at word)).1
    now = is ∙ sym (done (is_within old.number (length old.bytes) at (length piece)) (is_inside (length old.bytes) at (length piece) is_page.whole place))
      where
        done : (t : Bool) → t ≡ true → (let answer : Reply × PageValue = cond t (Done, page_written old writer at piece) (AccessFault, old) in answer.1) ≡ page_written old writer at piece
        done true e = refl
        done false e = cc

    replied : Done ≡ (page_touch old writer (write_of width at word)).0
    replied = sym (done (is_within old.number (length old.bytes) at (length piece)) (is_inside (length old.bytes) at (length piece) is_page.whole place))
      where
        done : (t : Bool) → t ≡ true → (let answer : Reply × PageValue = cond t (Done, page_written old writer at piece) (AccessFault, old) in answer.0) ≡ Done
        done true e = refl
        done false e = cc

    pub word_marks : marks_of (set pages i new) ≡ marks_after (place_among value (write_of width at word)) (marks_of value) (write_of width at word) Done
    word_marks =
        acted_marks value pages i writer (write_of width at word) old new Done view was now replied
        ∙ sym (ap (λ (p : PlaceId). marks_after p (marks_of value) (write_of width at word) Done) place)

    pub word_stays : ArePages 0 (set pages i new)
    word_stays = act_stays value pages i writer (write_of width at word) old new view are lt was now

    pub word_memory : flat_of (set pages i new) ≡ (served value writer (write_of width at word)).1
    word_memory =
        act_memory value pages i writer (write_of width at word) old new view are lt was now place
        ∙ sym (ap (λ (p : PlaceId). (at_place p (flat_of value) writer (write_of width at word)).1) place)

    pub word_pages : (d : PageValue) → set pages i new ≡ pages_at (place_among value (write_of width at word)) d value writer (write_of width at word)
    word_pages d =
        act_pages value pages i writer (write_of width at word) old new view are lt was now d
        ∙ sym (ap (λ (p : PlaceId). pages_at p d value writer (write_of width at word)) place)
