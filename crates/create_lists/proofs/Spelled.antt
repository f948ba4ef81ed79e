-- What is read of a file of bytes is what it is a file of.
use Rattle.std.proofs.Common.{◌≡◌, ℕ, ◌+◌, ◌*◌, ◌==◌, true, false, not, if◌then◌else◌, List, [], ◌∷◌, ◌++◌, length, take, drop, Option, Some, None, Result, Ok, Err, refl, sym, ◌∙◌, ap, subst, arith, length-append, length-drop, append-nil}
use Rattle.std.specs.Prelude.{nat_lt}
use Rattle.std.specs.Str.{bytes_eq}
use Rattle.std.proofs.lemmas.Bool.{and_parts, eqb-true, not-false, or_parts}
use Rattle.std.proofs.lemmas.List.{length-take-le, nil_from_length, take-append-drop}
use Rattle.std.proofs.lemmas.Slice.Eq.{bytes_eq-Decides}
use Rattle.vm_types.specs.declared.identity.Identity.{Identity}
use Rattle.refusals.specs.declared.refusal.Refusal.{Refusal}
use Rattle.refusals.specs.declared.refusal.Refusal.TheVariants as refusal
use Rattle.file_format.specs.Format.{IsBytes}
use Rattle.file_format.specs.Starts.{is_closed, is_other}
use Rattle.file_format.specs.Versions.{version_of}
use Rattle.snap_memory.specs.declared.header.MemHeader.{MemHeader}
use Rattle.snap_memory.specs.Headers as memory
use Rattle.snap_memory.proofs.Fronts as fronts
use Rattle.snap_diff.specs.Copies.{MemoryCopy}
use Rattle.snap_diff.proofs.Tables.{bytes_behind, bytes_front}
use Rattle.snap_state.specs.declared.copy.StateCopy.{StateCopy}
use Rattle.snap_state.specs.Files as state
use Rattle.snap_state.proofs.Copies.{accepted}
use Rattle.snapshot_merge.specs.Bases.{base_found, base_read, base_sized}
use Rattle.snapshot_merge.specs.Memories.{Holds, IsMemoryFile}
use Rattle.flat_snapshot.specs.Found.{memory_found, memory_front, memory_judged, memory_read, state_found, state_read}
use Rattle.flat_snapshot.proofs.Finds.{holds, passes, both}
use Rattle.flat_snapshot.proofs.Loaded.{same_when}

-- the copy of a memory file with this header
abbrev pub copy_in : MemHeader → List ℕ → MemoryCopy
copy_in h text = record { identity = memory.identity_of h; pages = h.pages; bytes = drop 4096 text }

module _ (text : List ℕ) (are : IsBytes text) where
  -- ---- a memory file

  front_holds : (h : MemHeader) (left : List ℕ) → memory.header.reads (take 4096 text) ≡ Some (h, left) → memory.is_valid h ≡ true
      → length text ≡ 4096 + 4096 * h.pages → Holds text h (copy_in h text)
  front_holds h left is valid size =
      let takes = memory.header.only (take 4096 text) h left (bytes_front 4096 text are) is in
      let front : length (take 4096 text) ≡ 4096 = length-take-le 4096 text (omega (arith, size)) in
      let none : left ≡ [] = nil_from_length left (omega (arith, front, ap length takes.1, length-append (memory.header.bytes h) left, fronts.length-header h takes.0)) in
      let all : take 4096 text ≡ memory.header.bytes h = takes.1 ∙ ap (λ (l : List ℕ). memory.header.bytes h ++ l) none ∙ append-nil (memory.header.bytes h) in
      record {
        fits = takes.0;
        valid = valid;
        pages = refl;
        identity = refl;
        whole = omega (arith, size, length-drop 4096 text);
        bytes = sym (take-append-drop 4096 text) ∙ ap (λ (l : List ℕ). l ++ drop 4096 text) all;
      }

  base_by : (h : MemHeader) (o : Option (MemHeader × List ℕ)) → memory.header.reads (take 4096 text) ≡ o → base_read (length text) o ≡ Ok h → Holds text h (copy_in h text)
  base_by h None is found = absurd cc
  base_by h (Some (g, left)) is found =
      let one = holds (memory.is_valid g) refusal.BadField (base_sized (length text) g) h found in
      let two = holds (length text == 4096 + 4096 * g.pages) refusal.SizesDiffer (Ok g) h one.1 in
      let same : g ≡ h = let e = two.1 in cc in
      subst (λ (x : MemHeader). Holds text x (copy_in x text)) same (front_holds g left is one.0 (eqb-true _ _ two.0))

  -- what is found as a base
  pub base_holds : (h : MemHeader) → base_found (Some text) ≡ Ok h → Holds text h (copy_in h text)
  base_holds h is =
      let late : Result MemHeader Refusal = base_read (length text) (memory.header.reads (take 4096 text)) in
      let one = passes (is_closed 4096 (take 4096 text)) refusal.GateClosed (if is_other memory.magic (take 4096 text) then Err refusal.WrongMagic else late) h is in
      let two = passes (is_other memory.magic (take 4096 text)) refusal.WrongMagic late h one.1 in
      base_by h (memory.header.reads (take 4096 text)) refl two.1

  memory_by : (i : Identity) (pages : ℕ) (o : Option (MemHeader × List ℕ)) → memory.header.reads (take 4096 text) ≡ o → memory_read i pages (length text) o ≡ Ok tt
      → IsMemoryFile text (record { identity = i; pages = pages; bytes = drop 4096 text })
  memory_by i pages None is found = absurd cc
  memory_by i pages (Some (g, left)) is found =
      let one = holds (memory.is_valid g) refusal.BadField (memory_judged i pages (length text) g) tt found in
      let two = passes _ _ _ tt one.1 in
      let three = passes _ _ _ tt two.1 in
      let four = passes _ _ _ tt three.1 in
      let settled : g.merging ≡ 0 = eqb-true g.merging 0 (not-false (g.merging == 0) two.0) in
      let sizes = and_parts (g.pages == pages) (length text == 4096 + 4096 * pages) (not-false _ three.0) in
      let count : g.pages ≡ pages = eqb-true g.pages pages sizes.0 in
      let size : length text ≡ 4096 + 4096 * pages = eqb-true (length text) (4096 + 4096 * pages) sizes.1 in
      let name : memory.identity_of g ≡ i = same_when (memory.identity_of g) i (not-false _ four.0) in
      let copy : copy_in g text ≡ record { identity = i; pages = pages; bytes = drop 4096 text } = (λ k. record { identity = name k; pages = count k; bytes = drop 4096 text }) in
      record {
        head = g;
        holds = subst (λ (m : MemoryCopy). Holds text g m) copy (front_holds g left is one.0 (size ∙ ap (λ (n : ℕ). 4096 + 4096 * n) (sym count)));
        settled = settled;
      }

  -- what a load finds as a memory
  pub memory_holds : (i : Identity) (pages : ℕ) (bytes : List ℕ) → memory_found i pages (Some text) ≡ Ok bytes
      → IsMemoryFile text (record { identity = i; pages = pages; bytes = bytes })
  memory_holds i pages bytes is =
      let one = both (memory_front i pages (length text) (take 4096 text)) (λ _. Ok (drop 4096 text)) bytes is in
      let late : Result (Unit {0}) Refusal = memory_read i pages (length text) (memory.header.reads (take 4096 text)) in
      let two = passes (is_closed 4096 (take 4096 text)) refusal.GateClosed (if is_other memory.magic (take 4096 text) then Err refusal.WrongMagic else late) tt one.1 in
      let three = passes (is_other memory.magic (take 4096 text)) refusal.WrongMagic late tt two.1 in
      let same : drop 4096 text ≡ bytes = let e = one.2 in cc in
      subst (λ (l : List ℕ). IsMemoryFile text (record { identity = i; pages = pages; bytes = l })) same
      (memory_by i pages (memory.header.reads (take 4096 text)) refl three.1)

-- ---- a state file

start_is : (given : List ℕ) → is_closed 32 given ≡ false → is_other (state.magic (version_of given)) given ≡ false
    → given ≡ 1 ∷ state.magic (version_of given) ++ drop 12 given
start_is [] opens known = absurd (let k : true ≡ false = opens in cc)
start_is (b ∷ rest) opens known =
    let gate : b ≡ 1 = eqb-true b 1 (not-false (b == 1) (or_parts (nat_lt (length (b ∷ rest)) 32) (not (b == 1)) opens).1) in
    let start : List ℕ = state.magic (version_of (b ∷ rest)) in
    let magic : take 11 rest ≡ start = (bytes_eq-Decides (take 11 rest) start).0 (not-false (bytes_eq (take 11 rest) start) known) in
    (λ i. gate i ∷ sym (take-append-drop 11 rest) i) ∙ ap (λ (l : List ℕ). 1 ∷ l ++ drop 11 rest) magic

module _ (text : List ℕ) (are : IsBytes text) (it : Identity × StateCopy) where
  state_by : (o : Option ((ℕ × (Identity × StateCopy)) × List ℕ)) → (state.contents (version_of text)).reads (drop 12 text) ≡ o → state_read (length (drop 12 text)) o ≡ Ok it
      → state.Holds (version_of text) (drop 12 text) (record { identity = it.0; copy = it.1 })
  state_by None is found = absurd cc
  state_by (Some ((len, (i, c)), left)) is found =
      let one = holds (state.is_accepted (length (drop 12 text)) (length left) len i c) refusal.BadField (Ok (i, c)) it found in
      let same : ◌≡◌ {A = Identity × StateCopy} (i, c) it = let e = one.1 in cc in
      subst (λ (x : Identity × StateCopy). state.Holds (version_of text) (drop 12 text) (record { identity = x.0; copy = x.1 })) same
      (accepted (version_of text) (drop 12 text) len i c left (bytes_behind 12 text are) is (length left) true refl (sym one.0) refl)

  -- what a load finds as a state
  pub state_encodes : state_found (Some text) ≡ Ok it → state.Encodes text (record { identity = it.0; copy = it.1 })
  state_encodes is =
      let late : Result (Identity × StateCopy) Refusal = state_read (length (drop 12 text)) ((state.contents (version_of text)).reads (drop 12 text)) in
      let one = passes (is_closed 32 text) refusal.GateClosed (if is_other (state.magic (version_of text)) text then Err refusal.WrongMagic else late) it is in
      let two = passes (is_other (state.magic (version_of text)) text) refusal.WrongMagic late it one.1 in
      let held = state_by ((state.contents (version_of text)).reads (drop 12 text)) refl two.1 in
      record { saved = held.saved; bytes = start_is text one.0 two.0 ∙ ap (λ (l : List ℕ). 1 ∷ state.magic (version_of text) ++ l) held.bytes }
