-- Writes to a memory file, by its header and pages.
use Rattle.std.proofs.Common.{◌≡◌, ℕ, zero, suc, ◌+◌, ◌*◌, ◌-◌, ◌<◌, ◌≤◌, ◌==◌, Bool, true, false, cond, List, [], ◌∷◌, ◌++◌, length, drop, take, get_or, replicate, set, refl, sym, ap, ◌∙◌, arith, append_assoc, length-append, length-drop}
use Rattle.std.specs.List.{flat_map}
use Rattle.std.proofs.Math.Seq.{drop-append-add, take-append-add}
use Rattle.std.proofs.lemmas.Bool.{ne_eqb}
use Rattle.std.proofs.lemmas.List.{append-nil, drop-append-le, length-replicate, length-take-le, take-append-le}
use Rattle.vm_types.specs.Saved.{overwritten, written}
use Rattle.vm_types.specs.declared.identity.Identity.{Identity}
use Rattle.guest_memory.specs.Memory.{put_at}
use Rattle.file_format.specs.Kinds.{byte, fixed, number32, number64, times, zeros}
use Rattle.file_format.specs.Identities.{identity}
use Rattle.snap_memory.specs.declared.header.MemHeader.{MemHeader}
use Rattle.snap_memory.specs.declared.slot.Slot.{Slot}
use Rattle.snap_memory.specs.Headers.{header, magic}
use Rattle.snap_memory.specs.Slots.{slot}
use Rattle.snap_memory.proofs.Fronts.{length-header, length-slot, length-slots}
use Rattle.snap_diff.specs.Copies.{rises, with_pages}
use Rattle.snap_diff.proofs.Laying.{below, length-paged, others_rise}
use Rattle.gate_file.specs.Stages.{written_all}
use Rattle.snapshot_merge.specs.Calls.{page_writes}

-- ---- bytes that are put into one of two parts

put_front : (xs rest piece : List ℕ) (o : ℕ) → o + length piece ≤ length xs → put_at (xs ++ rest) o piece ≡ put_at xs o piece ++ rest
put_front xs rest piece o inside =
    ap (λ (l : List ℕ). l ++ piece ++ drop (o + length piece) (xs ++ rest)) (take-append-le o xs rest (omega (arith, inside)))
    ∙ ap (λ (l : List ℕ). take o xs ++ piece ++ l) (drop-append-le (o + length piece) xs rest inside)
    ∙ sym (append_assoc (take o xs ++ piece) (drop (o + length piece) xs) rest)

put_behind : (xs rest piece : List ℕ) (k : ℕ) → put_at (xs ++ rest) (length xs + k) piece ≡ xs ++ put_at rest k piece
put_behind xs rest piece k =
    let l = length piece in
    ap (λ (t : List ℕ). t ++ piece ++ drop (length xs + k + l) (xs ++ rest)) (take-append-add xs rest k)
    ∙ ap (λ (j : ℕ). (xs ++ take k rest) ++ piece ++ drop j (xs ++ rest)) (omega arith)
    ∙ ap (λ (t : List ℕ). (xs ++ take k rest) ++ piece ++ t) (drop-append-add xs rest (k + l))
    ∙ ap (λ (t : List ℕ). t ++ drop (k + l) rest) (append_assoc xs (take k rest) piece)
    ∙ append_assoc xs (take k rest ++ piece) (drop (k + l) rest)

-- a write inside a file
written_inside : (text piece : List ℕ) (at : ℕ) → at ≤ length text → 0 < length piece → written text at piece ≡ put_at text at piece
written_inside text piece at inside some =
    let test : (length piece == 0) ≡ false = ne_eqb (length piece) 0 (λ none. omega (arith, none, some)) in
    let nothing : at - length text ≡ 0 = omega (arith, inside) in
    ap (λ (b : Bool). cond b text (overwritten text at piece)) test
    ∙ ap (λ (n : ℕ). take at (text ++ replicate n 0) ++ piece ++ drop (at + length piece) text) nothing
    ∙ ap (λ (l : List ℕ). take at l ++ piece ++ drop (at + length piece) text) (append-nil text)

-- ---- the header

-- its first 64 bytes
start_of : MemHeader → List ℕ
start_of h = 1 ∷ magic ++ (number32.bytes h.pages ++ (identity.bytes h.made_as ++ (h.merging ∷ (zeros 31).bytes tt)))

parts : (h : MemHeader) → header.bytes h ≡ start_of h ++ (flat_map slot.bytes h.slots ++ (zeros 832).bytes tt)
unfolding start_of header fixed byte number32 identity number64 times
parts h = refl

length-start : (h : MemHeader) → length (start_of h) ≡ 64
unfolding start_of number32 identity number64 zeros
length-start h = let nothing : ℕ = 0 in omega (arith, length-replicate 31 nothing)

-- the merging byte
put_mark : (h : MemHeader) (v : ℕ) → put_at (header.bytes h) 32 (v ∷ []) ≡ header.bytes (record h { merging = v })
unfolding header fixed byte number32 identity number64
put_mark h v = refl

-- ---- a slot

pub length-identity : (i : Identity) → length (identity.bytes i) ≡ 16
unfolding identity number64
length-identity i = refl

put_name : (s : Slot) (i : Identity) → put_at (slot.bytes s) 0 (identity.bytes i) ≡ slot.bytes (record { identity = i; gate = s.gate })
unfolding slot identity number64 byte
put_name s i = refl

put_gate : (s : Slot) (g : ℕ) → put_at (slot.bytes s) 16 (g ∷ []) ≡ slot.bytes (record { identity = s.identity; gate = g })
unfolding slot identity number64 byte
put_gate s g = refl

put_slot : (slots : List Slot) (j q : ℕ) (piece : List ℕ) (s : Slot) → j < length slots → q + length piece ≤ 32
    → put_at (slot.bytes (get_or slots j s)) q piece ≡ slot.bytes s → put_at (flat_map slot.bytes slots) (32 * j + q) piece ≡ flat_map slot.bytes (set slots j s)
put_slot [] j q piece s lt inside is = absurd (omega (arith, lt))
put_slot (t ∷ ts) zero q piece s lt inside is =
    ap (λ (k : ℕ). put_at (slot.bytes t ++ flat_map slot.bytes ts) k piece) (omega arith)
    ∙ put_front (slot.bytes t) (flat_map slot.bytes ts) piece q (omega (arith, inside, length-slot t))
    ∙ ap (λ (l : List ℕ). l ++ flat_map slot.bytes ts) is
put_slot (t ∷ ts) (suc j) q piece s lt inside is =
    let place : 32 * suc j + q ≡ length (slot.bytes t) + (32 * j + q) = omega (arith, length-slot t) in
    ap (λ (k : ℕ). put_at (slot.bytes t ++ flat_map slot.bytes ts) k piece) place
    ∙ put_behind (slot.bytes t) (flat_map slot.bytes ts) piece (32 * j + q)
    ∙ ap (λ (l : List ℕ). slot.bytes t ++ l) (put_slot ts j q piece s (omega (arith, lt)) inside is)

put_header : (h : MemHeader) (j q : ℕ) (piece : List ℕ) (s : Slot) → j < length h.slots → q + length piece ≤ 32
    → put_at (slot.bytes (get_or h.slots j s)) q piece ≡ slot.bytes s → put_at (header.bytes h) (64 + (32 * j + q)) piece ≡ header.bytes (record h { slots = set h.slots j s })
unfolding start_of header
put_header h j q piece s lt inside is =
    let slots : List ℕ = flat_map slot.bytes h.slots in
    let end : List ℕ = (zeros 832).bytes tt in
    let place : 64 + (32 * j + q) ≡ length (start_of h) + (32 * j + q) = omega (arith, length-start h) in
    ap (λ (l : List ℕ). put_at l (64 + (32 * j + q)) piece) (parts h)
    ∙ ap (λ (k : ℕ). put_at (start_of h ++ (slots ++ end)) k piece) place
    ∙ put_behind (start_of h) (slots ++ end) piece (32 * j + q)
    ∙ ap (λ (l : List ℕ). start_of h ++ l) (put_front slots end piece (32 * j + q) (omega (arith, lt, inside, length-slots h.slots)))
    ∙ ap (λ (l : List ℕ). start_of h ++ (l ++ end)) (put_slot h.slots j q piece s lt inside is)
    ∙ sym (parts (record h { slots = set h.slots j s }))

-- ---- the file

module _ (h : MemHeader) (bytes : List ℕ) (fits : header.Fits h) where
  long : length (header.bytes h) ≡ 4096
  long = length-header h fits

  written_head : (at : ℕ) (piece : List ℕ) → at + length piece ≤ 4096 → 0 < length piece → written (header.bytes h ++ bytes) at piece ≡ put_at (header.bytes h) at piece ++ bytes
  written_head at piece inside some =
      written_inside (header.bytes h ++ bytes) piece at (omega (arith, inside, long, length-append (header.bytes h) bytes)) some
      ∙ put_front (header.bytes h) bytes piece at (omega (arith, inside, long))

  pub marked : (v : ℕ) → written (header.bytes h ++ bytes) 32 (v ∷ []) ≡ header.bytes (record h { merging = v }) ++ bytes
  marked v = written_head 32 (v ∷ []) (omega arith) (omega arith) ∙ ap (λ (l : List ℕ). l ++ bytes) (put_mark h v)

  pub named : (j : ℕ) (i : Identity) (s : Slot) → length h.slots ≡ 100 → j < 100 → get_or h.slots j (record { identity = i; gate = s.gate }) ≡ s
      → written (header.bytes h ++ bytes) (64 + 32 * j) (identity.bytes i) ≡ header.bytes (record h { slots = set h.slots j (record { identity = i; gate = s.gate }) }) ++ bytes
  named j i s size lt is =
      let t : Slot = record { identity = i; gate = s.gate } in
      let sixteen : length (identity.bytes i) ≡ 16 = length-identity i in
      let place : 64 + 32 * j ≡ 64 + (32 * j + 0) = omega arith in
      written_head (64 + 32 * j) (identity.bytes i) (omega (arith, lt, sixteen)) (omega (arith, sixteen))
      ∙ ap (λ (k : ℕ). put_at (header.bytes h) k (identity.bytes i) ++ bytes) place
      ∙ ap (λ (l : List ℕ). l ++ bytes)
      (put_header h j 0 (identity.bytes i) t (omega (arith, lt, size)) (omega (arith, sixteen))
      (ap (λ (u : Slot). put_at (slot.bytes u) 0 (identity.bytes i)) is ∙ put_name s i))

  -- the slot is given this gate
  pub gated : (j g : ℕ) (i : Identity) (s : Slot) → length h.slots ≡ 100 → j < 100 → get_or h.slots j (record { identity = i; gate = g }) ≡ s → s.identity ≡ i
      → written (header.bytes h ++ bytes) (64 + 32 * j + 16) (g ∷ []) ≡ header.bytes (record h { slots = set h.slots j (record { identity = i; gate = g }) }) ++ bytes
  gated j g i s size lt is same =
      let t : Slot = record { identity = i; gate = g } in
      let place : 64 + 32 * j + 16 ≡ 64 + (32 * j + 16) = omega arith in
      written_head (64 + 32 * j + 16) (g ∷ []) (omega (arith, lt)) (omega arith)
      ∙ ap (λ (k : ℕ). put_at (header.bytes h) k (g ∷ []) ++ bytes) place
      ∙ ap (λ (l : List ℕ). l ++ bytes)
      (put_header h j 16 (g ∷ []) t (omega (arith, lt, size)) (omega arith)
      (ap (λ (u : Slot). put_at (slot.bytes u) 16 (g ∷ [])) is ∙ put_gate s g ∙ ap (λ (k : Identity). slot.bytes (record { identity = k; gate = g })) same))

  pub paged : (numbers : List ℕ) (count low : ℕ) (pages bs : List ℕ) → rises count low numbers ≡ true → length bs ≡ 4096 * count → 4096 * length numbers ≤ length pages
      → written_all (page_writes numbers pages) (header.bytes h ++ bs) ≡ header.bytes h ++ with_pages numbers pages bs
  paged [] count low pages bs rise whole size = refl
  paged (n ∷ ns) count low pages bs rise whole size =
      let page : List ℕ = take 4096 pages in
      let one : length page ≡ 4096 = length-take-le 4096 pages (omega (arith, size)) in
      let lt = below count low n ns rise in
      let place : 4096 + 4096 * n ≡ length (header.bytes h) + 4096 * n = omega (arith, long) in
      ap (written_all (page_writes ns (drop 4096 pages)))
      (written_inside (header.bytes h ++ bs) page (4096 + 4096 * n) (omega (arith, long, lt, whole, length-append (header.bytes h) bs)) (omega (arith, one))
      ∙ ap (λ (k : ℕ). put_at (header.bytes h ++ bs) k page) place
      ∙ put_behind (header.bytes h) bs page (4096 * n))
      ∙ paged ns count (suc n) (drop 4096 pages) (put_at bs (4096 * n) page) (others_rise count low n ns rise) (length-paged count bs page n whole one lt) (omega (arith, size, length-drop 4096 pages))
