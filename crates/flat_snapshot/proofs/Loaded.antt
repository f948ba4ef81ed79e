-- The files of a create are found as its snapshot.
use Rattle.std.proofs.Common.{◌≡◌, ◌≢◌, ℕ, ◌+◌, ◌*◌, ◌==◌, Bool, true, false, not, ◌&&◌, eqb, if◌then◌else◌, List, [], ◌∷◌, ◌++◌, length, take, drop, Option, Some, Result, Ok, Err, refl, sym, ap, ◌∙◌, arith, length-append}
use Rattle.std.proofs.lemmas.Bool.{and_parts, eq-eqb, eqb-true, false_from_ne_true}
use Rattle.std.proofs.lemmas.List.{append-nil}
use Rattle.std.proofs.Math.Seq.{drop-append_seam, take-append_seam}
use Rattle.std.specs.Prelude.{IsTrue}
use Rattle.std.specs.FinMap.{get, insert}
use Rattle.vm_types.specs.Saved.{Saved}
use Rattle.vm_types.specs.declared.identity.Identity.{Identity}
use Rattle.refusals.specs.declared.refusal.Refusal.{Refusal}
use Rattle.refusals.specs.declared.refusal.Refusal.TheVariants as refusal
use Rattle.api_calls.specs.declared.call.SnapshotFiles.{SnapshotFiles}
use Rattle.api_calls.specs.Call.{◌>>=◌}
use Rattle.guest_memory.specs.Ram.{page_size}
use Rattle.gate_file.proofs.Inserts.{got_other, got_there}
use Rattle.file_format.specs.Kinds.{fixed}
use Rattle.file_format.specs.Identities.{is_numbered, is_same}
use Rattle.file_format.specs.Starts.{is_other}
use Rattle.file_format.specs.Versions.{current_version, version_of}
use Rattle.file_format.specs.declared.version.Version.{Version}
use Rattle.snap_memory.specs.declared.header.MemHeader.{MemHeader}
use Rattle.snap_memory.specs.Headers as memory
use Rattle.snap_memory.proofs.Fronts as fronts
use Rattle.snap_state.specs.declared.copy.StateCopy.{StateCopy}
use Rattle.snap_state.specs.declared.file.Saved as file
use Rattle.snap_state.specs.Copies.{state_copy}
use Rattle.snap_state.specs.Files as state
use Rattle.snap_state.proofs.Copies as copies
use Rattle.flat_snapshot.specs.Files.{memory_file, memory_head, state_body, state_file}
use Rattle.flat_snapshot.specs.Found.{found, memory_found, memory_front, pages_in, memory_judged, memory_read, state_found, state_in, state_read}

all_true : (a b c : Bool) → a ≡ true → b ≡ true → c ≡ true → (a && b && c) ≡ true
all_true a b c p q r = rw (p, q, r) refl

-- ---- the state file

-- what a file of a copy is found as
module _ (given : List ℕ) (s : file.Saved) (e : state.Encodes given s) where
  abbrev v : Version
  v = version_of given

  abbrev len : ℕ
  len = length ((state_copy v).bytes s.copy)

  rest_is : drop 12 given ≡ (state.contents v).bytes (state.contents_of v s)
  rest_is = ap (drop 12) e.bytes ∙ copies.behind_magic v ((state.contents v).bytes (state.contents_of v s))

  reads : (state.contents v).reads (drop 12 given) ≡ Some (state.contents_of v s, [])
  reads =
      ap (state.contents v).reads (rest_is ∙ sym (append-nil ((state.contents v).bytes (state.contents_of v s))))
      ∙ (state.contents v).again (state.contents_of v s) [] e.saved.fits

  accepted : state.is_accepted (length (drop 12 given)) 0 len s.identity s.copy ≡ true
  accepted =
      let size : length (drop 12 given) ≡ 20 + len = ap length rest_is ∙ copies.length-contents v len s.identity s.copy in
      all_true (eqb (len + 20) (length (drop 12 given))) _ _ (eq-eqb _ _ (omega (arith, size))) e.saved.numbered e.saved.valid

  pub state_of_file : state_in given ≡ Ok (s.identity, s.copy)
  state_of_file =
      ap (λ (b : Bool). if b then Err refusal.GateClosed
      else (if is_other (state.magic v) given then Err refusal.WrongMagic
      else state_read (length (drop 12 given)) ((state.contents v).reads (drop 12 given)))) (copies.opened given s e)
      ∙ ap (λ (b : Bool). if b then Err refusal.WrongMagic
      else state_read (length (drop 12 given)) ((state.contents v).reads (drop 12 given))) (copies.known given s e)
      ∙ ap (λ r. state_read (length (drop 12 given)) r) reads
      ∙ ap (λ (b : Bool). if b then Ok (s.identity, s.copy) else Err refusal.BadField) accepted

-- the file of a create is one
pub created : (i : Identity) (c : StateCopy) → state.IsSaved current_version (record { identity = i; copy = c })
    → state.Encodes (state_file i c) (record { identity = i; copy = c })
unfolding state_body
created i c saved = record { saved = saved; bytes = refl }

-- ---- the memory file

-- what a front that begins with a header is found as
module _ (i : Identity) (pages size : ℕ) (front : List ℕ) (h : MemHeader) (b : memory.Begins front h) where
  reads_header : memory.header.reads front ≡ Some (h, b.pages)
  reads_header = ap memory.header.reads b.bytes ∙ memory.header.again h b.pages b.fits

  pub front_of_header : memory_front i pages size front ≡ memory_judged i pages size h
  front_of_header =
      ap (λ (t : Bool). if t then Err refusal.GateClosed
      else (if is_other memory.magic front then Err refusal.WrongMagic
      else memory_read i pages size (memory.header.reads front))) (fronts.opened front h b)
      ∙ ap (λ (t : Bool). if t then Err refusal.WrongMagic else memory_read i pages size (memory.header.reads front))
      (fronts.known front h b)
      ∙ ap (λ r. memory_read i pages size r) reads_header
      ∙ ap (λ (t : Bool). if t then memory_judged i pages size h else Err refusal.BadField) b.valid

pub same_when : (a b : Identity) → is_same a b ≡ true → a ≡ b
same_when a b e =
    let parts = and_parts (eqb a.lineage b.lineage) (eqb a.number b.number) e in
    λ i. record { lineage = eqb-true a.lineage b.lineage parts.0 i; number = eqb-true a.number b.number parts.1 i }

same_identity : (i : Identity) → is_same i i ≡ true
same_identity i = ap (λ (t : Bool). t && eqb i.number i.number) (eq-eqb i.lineage i.lineage refl) ∙ eq-eqb i.number i.number refl

-- a memory file with this header, into which no merge is unfinished
module _ (pages : ℕ) (bytes given : List ℕ) (h : MemHeader) (fits : memory.header.Fits h) (valid : IsTrue (memory.is_valid h))
    (settled : h.merging ≡ 0) (count : h.pages ≡ pages) (whole : length bytes ≡ page_size * pages)
    (given_is : given ≡ memory.header.bytes h ++ bytes) where
  front_is : take 4096 given ≡ memory.header.bytes h
  front_is =
      ap (take 4096) given_is ∙ ap (λ (n : ℕ). take n (memory.header.bytes h ++ bytes)) (sym (fronts.length-header h fits))
      ∙ take-append_seam (memory.header.bytes h) bytes

  begins : memory.Begins (take 4096 given) h
  begins = record { fits = fits; valid = valid; pages = []; bytes = front_is ∙ sym (append-nil (memory.header.bytes h)) }

  size_is : length given ≡ 4096 + page_size * pages
  size_is =
      ap length given_is ∙ length-append (memory.header.bytes h) bytes
      ∙ ap (λ (n : ℕ). n + length bytes) (fronts.length-header h fits) ∙ ap (λ (n : ℕ). 4096 + n) whole

  behind : drop 4096 given ≡ bytes
  behind =
      ap (drop 4096) given_is ∙ ap (λ (n : ℕ). drop n (memory.header.bytes h ++ bytes)) (sym (fronts.length-header h fits))
      ∙ drop-append_seam (memory.header.bytes h) bytes

  module _ (asked : Identity) where
    judged : memory_judged asked pages (length given) h ≡ (if not (is_same (memory.identity_of h) asked) then Err refusal.ParentDiffers else Ok tt)
    judged =
        ap (λ (t : Bool). if not t then Err refusal.MergeUnfinished
        else (if not ((h.pages == pages) && (length given == 4096 + page_size * pages)) then Err refusal.SizesDiffer
        else (if not (is_same (memory.identity_of h) asked) then Err refusal.ParentDiffers else Ok tt))) (eq-eqb h.merging 0 settled)
        ∙ ap (λ (t : Bool). if not (t && (length given == 4096 + page_size * pages)) then Err refusal.SizesDiffer
        else (if not (is_same (memory.identity_of h) asked) then Err refusal.ParentDiffers else Ok tt)) (eq-eqb h.pages pages count)
        ∙ ap (λ (t : Bool). if not t then Err refusal.SizesDiffer
        else (if not (is_same (memory.identity_of h) asked) then Err refusal.ParentDiffers else Ok tt)) (eq-eqb _ _ size_is)

    found_by : (same : Bool) → is_same (memory.identity_of h) asked ≡ same
        → pages_in asked pages given ≡ (if not same then Err refusal.ParentDiffers else Ok bytes)
    found_by true is =
        ap (λ (r : Result (Unit {0}) Refusal). r >>= λ _. Ok (drop 4096 given))
        (front_of_header asked pages (length given) (take 4096 given) h begins ∙ judged
        ∙ ap (λ (t : Bool). if not t then Err refusal.ParentDiffers else Ok tt) is)
        ∙ ap Ok behind
    found_by false is =
        ap (λ (r : Result (Unit {0}) Refusal). r >>= λ _. Ok (drop 4096 given))
        (front_of_header asked pages (length given) (take 4096 given) h begins ∙ judged
        ∙ ap (λ (t : Bool). if not t then Err refusal.ParentDiffers else Ok tt) is)

    memory_again : memory.identity_of h ≡ asked → pages_in asked pages given ≡ Ok bytes
    memory_again is = found_by true (ap (λ (i : Identity). is_same i asked) is ∙ same_identity asked)

    memory_other : memory.identity_of h ≢ asked → pages_in asked pages given ≡ Err refusal.ParentDiffers
    memory_other differ = found_by false (false_from_ne_true (is_same (memory.identity_of h) asked) (λ e. differ (same_when (memory.identity_of h) asked e)))

-- ---- both

-- by what both names hold
module _ (saved : Saved) (files : SnapshotFiles) (i : Identity) (c : StateCopy) (text bytes given : List ℕ) (h : MemHeader)
    (encodes : state.Encodes text (record { identity = i; copy = c })) (fits : memory.header.Fits h) (valid : IsTrue (memory.is_valid h))
    (settled : h.merging ≡ 0) (count : h.pages ≡ c.pages) (whole : length bytes ≡ page_size * c.pages)
    (given_is : given ≡ memory.header.bytes h ++ bytes)
    (state_there : get saved files.snapshot_path ≡ Some text) (memory_there : get saved files.mem_file_path ≡ Some given) where
  found_as : found saved files ≡ (pages_in i c.pages given >>= λ b. Ok (record { identity = i; copy = c; bytes = b }))
  unfolding found
  found_as =
      ap (λ (o : Option (List ℕ)). state_found o >>= λ s. memory_found s.0 s.1.pages (get saved files.mem_file_path) >>= λ b. Ok (record { identity = s.0; copy = s.1; bytes = b })) state_there
      ∙ ap (λ (r : Result (Identity × StateCopy) Refusal). r >>= λ s. memory_found s.0 s.1.pages (get saved files.mem_file_path) >>= λ b. Ok (record { identity = s.0; copy = s.1; bytes = b })) (state_of_file text (record { identity = i; copy = c }) encodes)
      ∙ ap (λ (o : Option (List ℕ)). memory_found i c.pages o >>= λ b. Ok (record { identity = i; copy = c; bytes = b })) memory_there

  pub found_here : memory.identity_of h ≡ i → found saved files ≡ Ok (record { identity = i; copy = c; bytes = bytes })
  found_here is =
      found_as ∙ ap (λ (r : Result (List ℕ) Refusal). r >>= λ b. Ok (record { identity = i; copy = c; bytes = b }))
      (memory_again c.pages bytes given h fits valid settled count whole given_is i is)

  pub none_here : memory.identity_of h ≢ i → found saved files ≡ Err refusal.ParentDiffers
  none_here differ =
      found_as ∙ ap (λ (r : Result (List ℕ) Refusal). r >>= λ b. Ok (record { identity = i; copy = c; bytes = b }))
      (memory_other c.pages bytes given h fits valid settled count whole given_is i differ)

-- ---- where a create put them

opens : (g : MemHeader) → 1 ∷ drop 1 (memory.header.bytes g) ≡ memory.header.bytes g
unfolding memory.header fixed
opens g = refl

pub memory_is : (i : Identity) (pages : ℕ) (bytes : List ℕ) → memory_file i pages bytes ≡ memory.header.bytes (memory.new_header pages i) ++ bytes
unfolding memory_head
memory_is i pages bytes = ap (λ (l : List ℕ). l ++ bytes) (opens (memory.new_header pages i))

pub new_valid : (pages : ℕ) (i : Identity) → IsTrue (is_numbered i) → IsTrue (memory.is_valid (memory.new_header pages i))
new_valid pages i numbered = ap (λ (t : Bool). t && true) numbered

module _ (before : Saved) (files : SnapshotFiles) (i of : Identity) (c : StateCopy) (bytes : List ℕ)
    (differ : files.mem_file_path ≢ files.snapshot_path) where
  abbrev after : Saved
  after = insert (insert before files.mem_file_path (memory_file of c.pages bytes)) files.snapshot_path (state_file i c)

  memory_there : get after files.mem_file_path ≡ Some (memory_file of c.pages bytes)
  memory_there =
      got_other (insert before files.mem_file_path (memory_file of c.pages bytes)) files.snapshot_path (state_file i c) files.mem_file_path differ
      ∙ got_there before files.mem_file_path (memory_file of c.pages bytes)

  state_there : get after files.snapshot_path ≡ Some (state_file i c)
  state_there = got_there (insert before files.mem_file_path (memory_file of c.pages bytes)) files.snapshot_path (state_file i c)

pub found_again : (before : Saved) (files : SnapshotFiles) (i : Identity) (c : StateCopy) (bytes : List ℕ)
    → files.mem_file_path ≢ files.snapshot_path → state.IsSaved current_version (record { identity = i; copy = c })
    → memory.header.Fits (memory.new_header c.pages i) → length bytes ≡ page_size * c.pages
    → found (insert (insert before files.mem_file_path (memory_file i c.pages bytes)) files.snapshot_path (state_file i c)) files
    ≡ Ok (record { identity = i; copy = c; bytes = bytes })
found_again before files i c bytes differ saved fits whole =
    found_here (after before files i i c bytes differ) files i c (state_file i c) bytes (memory_file i c.pages bytes)
    (memory.new_header c.pages i) (created i c saved) fits
    (new_valid c.pages i saved.numbered) refl refl whole (memory_is i c.pages bytes) (state_there before files i i c bytes differ)
    (memory_there before files i i c bytes differ) refl

pub found_other : (before : Saved) (files : SnapshotFiles) (i other : Identity) (c : StateCopy) (bytes : List ℕ)
    → files.mem_file_path ≢ files.snapshot_path → state.IsSaved current_version (record { identity = i; copy = c })
    → memory.header.Fits (memory.new_header c.pages other) → IsTrue (is_numbered other) → length bytes ≡ page_size * c.pages
    → other ≢ i
    → found (insert (insert before files.mem_file_path (memory_file other c.pages bytes)) files.snapshot_path (state_file i c)) files
    ≡ Err refusal.ParentDiffers
found_other before files i other c bytes differ saved fits numbered whole others =
    none_here (after before files i other c bytes differ) files i c (state_file i c) bytes (memory_file other c.pages bytes)
    (memory.new_header c.pages other) (created i c saved) fits
    (new_valid c.pages other numbered) refl refl whole (memory_is other c.pages bytes) (state_there before files i other c bytes differ)
    (memory_there before files i other c bytes differ) others

-- or anywhere else, whatever was merged into the memory file
pub found_in : (saved : Saved) (files : SnapshotFiles) (i : Identity) (c : StateCopy) (text bytes : List ℕ) (h : MemHeader)
    → state.Encodes text (record { identity = i; copy = c }) → memory.header.Fits h → IsTrue (memory.is_valid h) → h.merging ≡ 0
    → h.pages ≡ c.pages → memory.identity_of h ≡ i → length bytes ≡ page_size * c.pages
    → get saved files.snapshot_path ≡ Some text → get saved files.mem_file_path ≡ Some (memory.header.bytes h ++ bytes)
    → found saved files ≡ Ok (record { identity = i; copy = c; bytes = bytes })
found_in saved files i c text bytes h encodes fits valid settled count is whole state_there memory_there =
    found_here saved files i c text bytes (memory.header.bytes h ++ bytes) h encodes fits valid settled count whole refl state_there memory_there is
