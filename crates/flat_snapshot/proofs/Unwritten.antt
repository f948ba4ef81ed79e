-- A page that no event wrote is as it was.
use Rattle.std.proofs.Common.{◌≡◌, ℕ, ◌+◌, ◌*◌, ◌-◌, ◌<◌, ◌==◌, nat_le, nat_lt, ◌&&◌, Bool, true, false, cond, List, [], ◌∷◌, length, drop, get_or, Option, Some, None, refl, sym, ap, subst, ◌∙◌, arith, inl, inr, length-drop}
use Rattle.std.proofs.lemmas.Bool.{cases_lt, eqb-false, or_parts}
use Rattle.std.proofs.lemmas.List.{ext_get_or, length-take}
use Rattle.vm_types.specs.declared.ids.ActorId.{ActorId}
use Rattle.vm_types.specs.declared.ids.PlaceId.{PlaceId}
use Rattle.vm_types.specs.declared.op.Op.{Op}
use Rattle.vm_types.specs.declared.op.Op.TheVariants.{Read, Write, Amo, Lr, Sc}
use Rattle.vm_types.specs.declared.reply.Reply.{Reply}
use Rattle.vm_types.specs.declared.reply.Reply.TheVariants.{Done, Bytes, Word, AccessFault}
use Rattle.vm_types.specs.declared.entry.Entry.{Entry}
use Rattle.vm_types.specs.Ids.{same_place}
use Rattle.guest_memory.specs.Amo.{amo_value}
use Rattle.guest_memory.specs.Memory.{Memory, put_at, touch, read_from, word_at, written, reserving}
use Rattle.guest_memory.specs.Ram.{ram_start, is_ram}
use Rattle.guest_memory.specs.Reserved.{first_slot, granule_of, held_by, is_granule}
use Rattle.guest_memory.specs.Route.{access_place, page_of}
use Rattle.guest_memory.specs.Words.{width_of, word_bytes}
use Rattle.guest_memory.proofs.Keeping.{word_long}
use Rattle.guest_pages.specs.Marks.{is_written, writes_page}
use Rattle.guest_pages.proofs.Here.{IsHere, here}
use Rattle.snap_diff.specs.Copies.{page_at}
use Rattle.snap_diff.proofs.Laying.{cell_of_page, length-put, put_before, put_behind}
use Rattle.flat_guest.specs.Given.{Event, Given}
use Rattle.flat_guest.specs.Given.Given.{Nothing}
use Rattle.flat_guest.specs.declared.places.Layout.{Layout}
use Rattle.flat_guest.specs.Guest.{Guest, layout_of}
use Rattle.flat_guest.specs.Places.{is_register_access, place_by, place_of, port_accessed}
use Rattle.flat_guest.specs.Steps.{Answers, FlatStep, Makes, StepsBy, memory_after}
use Rattle.flat_snapshot.specs.Unwritten.{KeepsUnwritten}

-- pages with the same cells, of as many bytes
same_page : (i : ℕ) (xs ys : List ℕ) → length xs ≡ length ys
    → ((r : ℕ) → r < 4096 → get_or xs (4096 * i + r) 0 ≡ get_or ys (4096 * i + r) 0) → page_at i xs ≡ page_at i ys
same_page i xs ys same cells =
    let size : length (page_at i xs) ≡ length (page_at i ys) =
    omega (arith, same, length-take 4096 (drop (4096 * i) xs), length-take 4096 (drop (4096 * i) ys), length-drop (4096 * i) xs, length-drop (4096 * i) ys) in
    ext_get_or 0 (page_at i xs) (page_at i ys) size (λ r lt.
    let small : r < 4096 = omega (arith, lt, length-take 4096 (drop (4096 * i) xs)) in
    cell_of_page i r xs small ∙ cells r small ∙ sym (cell_of_page i r ys small))

-- ---- bytes that are put into page k

module _ (bs piece : List ℕ) (k at : ℕ) (h : IsHere (length bs) k at (length piece)) where
  put_size : length (put_at bs (at - ram_start) piece) ≡ length bs
  put_size = length-put bs piece (at - ram_start) h.below

  put_cell : (i r : ℕ) → (k == i) ≡ false → r < 4096
      → get_or (put_at bs (at - ram_start) piece) (4096 * i + r) 0 ≡ get_or bs (4096 * i + r) 0
  put_cell i r other small =
      let ne = eqb-false k i other in
      let from = h.from in
      let to = h.to in
      elim (cases_lt (4096 * i + r) (at - ram_start)) [
        | inl before ↦ put_before bs piece (at - ram_start) h.below (4096 * i + r) before
        | inr after ↦ put_behind bs piece (at - ram_start) h.below (4096 * i + r) (omega (arith, ne, after, from, to, small))
      ]

  put_page : (i : ℕ) → (k == i) ≡ false → page_at i (put_at bs (at - ram_start) piece) ≡ page_at i bs
  put_page i other = same_page i (put_at bs (at - ram_start) piece) bs put_size (λ r small. put_cell i r other small)

-- ---- an act on page k

-- it leaves as many bytes, and page i as it was, unless it wrote that page
abbrev Stays : List ℕ → ℕ → Bool → Op → Reply × Memory → Type 0
Stays bytes i own op left =
    (length left.1.bytes ≡ length bytes)
    × ((own && is_written op left.0) ≡ false → page_at i left.1.bytes ≡ page_at i bytes)

not_own : (own wrote : Bool) → wrote ≡ true → (own && wrote) ≡ false → own ≡ false
not_own true true is none = cc
not_own true false is none = cc
not_own false wrote is none = refl

module _ (m : Memory) (actor : ActorId) (k i : ℕ) where
  wrote : (op : Op) (reply : Reply) (at : ℕ) (piece : List ℕ) (reserved : List (Option ℕ)) → IsHere (length m.bytes) k at (length piece)
      → is_written op reply ≡ true
      → Stays m.bytes i (k == i) op (reply, record { bytes = put_at m.bytes (at - ram_start) piece; reserved = reserved })
  wrote op reply at piece reserved h writes = (
    put_size m.bytes piece k at h,
    λ none. put_page m.bytes piece k at h i (not_own (k == i) (is_written op reply) writes none),
  )

  word_here : (at value : ℕ) (wide : Bool) → page_of (length m.bytes) at (width_of wide) ≡ PlaceId.Page k
      → IsHere (length m.bytes) k at (length (word_bytes wide value))
  word_here at value wide is =
      subst (λ (n : ℕ). IsHere (length m.bytes) k at n) (sym (word_long wide value)) (here (length m.bytes) at (width_of wide) k is)

  act_stays : (op : Op) → access_place (length m.bytes) op ≡ PlaceId.Page k → Stays m.bytes i (k == i) op (touch m actor op)
  act_stays (Read at len) is = by_test (nat_le len 64 && is_ram (length m.bytes) at len)
    where
      by_test : (b : Bool) → Stays m.bytes i (k == i) (Read at len) (cond b (Bytes (read_from m at len), m) (AccessFault, m))
      by_test true = (refl, λ none. refl)
      by_test false = (refl, λ none. refl)
  act_stays (Write at piece) is = by_test (is_ram (length m.bytes) at (length piece))
    where
      by_test : (b : Bool) → Stays m.bytes i (k == i) (Write at piece) (cond b (Done, written m actor at piece) (AccessFault, m))
      by_test true = wrote (Write at piece) Done at piece (written m actor at piece).reserved (here (length m.bytes) at (length piece) k is) refl
      by_test false = (refl, λ none. refl)
  act_stays (Amo at value kind wide) is = by_test (is_ram (length m.bytes) at (width_of wide))
    where
      by_test : (b : Bool) → Stays m.bytes i (k == i) (Amo at value kind wide)
          (cond b (Word (word_at m at wide), written m actor at (word_bytes wide (amo_value kind wide (word_at m at wide) value))) (AccessFault, m))
      by_test true =
          wrote (Amo at value kind wide) (Word (word_at m at wide)) at (word_bytes wide (amo_value kind wide (word_at m at wide) value))
          (written m actor at (word_bytes wide (amo_value kind wide (word_at m at wide) value))).reserved
          (word_here at (amo_value kind wide (word_at m at wide) value) wide is) refl
      by_test false = (refl, λ none. refl)
  act_stays (Lr at wide) is = by_test (is_ram (length m.bytes) at (width_of wide))
    where
      by_test : (b : Bool) → Stays m.bytes i (k == i) (Lr at wide) (cond b (Word (word_at m at wide), reserving m actor at (Some (granule_of at))) (AccessFault, m))
      by_test true = (refl, λ none. refl)
      by_test false = (refl, λ none. refl)
  act_stays (Sc at value wide) is =
      by_test (is_ram (length m.bytes) at (width_of wide)) (is_granule (granule_of at) (held_by m.reserved (first_slot at) actor))
    where
      by_test : (b c : Bool) → Stays m.bytes i (k == i) (Sc at value wide)
          (cond b (cond c (Word 0, reserving (written m actor at (word_bytes wide value)) actor at None) (Word 1, reserving m actor at None)) (AccessFault, m))
      by_test true true =
          wrote (Sc at value wide) (Word 0) at (word_bytes wide value)
          (reserving (written m actor at (word_bytes wide value)) actor at None).reserved (word_here at value wide is) refl
      by_test true false = (refl, λ none. refl)
      by_test false c = (refl, λ none. refl)
  act_stays op is = (refl, λ none. refl)

-- ---- an event

-- what acts on a page is an access of it
no_page_of_port : (there : Bool) (port k : ℕ) → cond there (PlaceId.Port port) PlaceId.Out ≡ PlaceId.Page k → ⊥
no_page_of_port true port k is = cc
no_page_of_port false port k is = cc

by_place : (ports : ℕ) (registers : Bool) (port : Option ℕ) (place : PlaceId) (k : ℕ)
    → place_by ports registers port place ≡ PlaceId.Page k → place ≡ PlaceId.Page k
by_place ports true port place k is = cc
by_place ports false (Some port) place k is = absurd (no_page_of_port (nat_lt port ports) port k is)
by_place ports false None place k is = is

routed : (there : Layout) (op : Op) (k : ℕ) → place_of there op ≡ PlaceId.Page k → access_place there.memory_size op ≡ PlaceId.Page k
routed there (Op.Read at len) k is =
    let op : Op = Op.Read at len in
    by_place there.ports (is_register_access op) (port_accessed op) (access_place there.memory_size op) k is
routed there (Op.Write at piece) k is =
    let op : Op = Op.Write at piece in
    by_place there.ports (is_register_access op) (port_accessed op) (access_place there.memory_size op) k is
routed there (Op.Amo at value kind wide) k is =
    let op : Op = Op.Amo at value kind wide in
    by_place there.ports (is_register_access op) (port_accessed op) (access_place there.memory_size op) k is
routed there (Op.Lr at wide) k is =
    let op : Op = Op.Lr at wide in
    by_place there.ports (is_register_access op) (port_accessed op) (access_place there.memory_size op) k is
routed there (Op.Sc at value wide) k is =
    let op : Op = Op.Sc at value wide in
    by_place there.ports (is_register_access op) (port_accessed op) (access_place there.memory_size op) k is
routed there (Op.Port port act) k is = absurd (no_page_of_port (nat_lt port there.ports) port k is)
routed there op k is = cc

module _ (g : Guest) (actor : ActorId) (op : Op) (reply : Reply) (given : Given) (i : ℕ) where
  at_place : (place : PlaceId) → place ≡ place_of (layout_of g) op → Answers place g actor op given reply
      → (length (memory_after place g.memory actor op).bytes ≡ length g.memory.bytes)
      × ((same_place place (PlaceId.Page i) && is_written op reply) ≡ false
      → page_at i (memory_after place g.memory actor op).bytes ≡ page_at i g.memory.bytes)
  at_place (PlaceId.Page k) is (none, answer) =
      let stays = act_stays g.memory actor k i op (routed (layout_of g) op k (sym is)) in (
        stays.0,
        λ unwritten. stays.1 (ap (λ (r : Reply). (k == i) && is_written op r) (sym answer) ∙ unwritten),
      )
  at_place place is answer = (refl, λ none. refl)

pub one_keeps : (g h : Guest) (event : Event) (e : Entry) → FlatStep g event e h → KeepsUnwritten g h
one_keeps g h event e step =
    subst (λ (n : Guest). KeepsUnwritten g n) (sym step.after)
    (record {
      size = (at_place g e.actor e.op e.reply event.given 0 e.place step.place step.answer).0;
      unwritten = λ i none. (or_parts (g.written i) (writes_page i e) none).0;
      pages = λ i none.
          (at_place g e.actor e.op e.reply event.given i e.place step.place step.answer).1 (or_parts (g.written i) (writes_page i e) none).1;
    })

-- ---- several

pub keeps_same : (g h : Guest) → g ≡ h → KeepsUnwritten g h
keeps_same g h same =
    subst (λ (n : Guest). KeepsUnwritten g n) same
    (record { size = refl; unwritten = λ i none. none; pages = λ i none. refl })

pub keeps_joined : (g h k : Guest) → KeepsUnwritten g h → KeepsUnwritten h k → KeepsUnwritten g k
keeps_joined g h k first second = record {
  size = second.size ∙ first.size;
  unwritten = λ i none. first.unwritten i (second.unwritten i none);
  pages = λ i none. second.pages i none ∙ first.pages i (second.unwritten i none);
}

made_keep : (es : List Entry) (g h : Guest) (actor : ActorId) → Makes g actor es h → KeepsUnwritten g h
made_keep [] g h actor same = keeps_same g h same
made_keep (e ∷ es) g h actor (unstamped, mid, step, rest) =
    keeps_joined g mid h (one_keeps g mid (record { actor = actor; given = Nothing }) e step) (made_keep es mid h actor rest)

pub several_keep : (g h : Guest) (actor : ActorId) (count : ℕ) (es : List Entry) → StepsBy g actor count es h → KeepsUnwritten g h
several_keep g h actor count es steps = made_keep es g h actor steps.made
