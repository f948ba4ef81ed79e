-- What bytes are judged as is what the definition finds.
use Rattle.std.proofs.Common.{◌≡◌, ℕ, ◌+◌, ◌<◌, Bool, true, false, if◌then◌else◌, List, [], ◌∷◌, ◌++◌, length, take, drop, take-append-drop, Option, Some, None, Ok, Err, refl, sym, ap, subst, ◌∙◌}
use Rattle.std.proofs.lemmas.Bool.{eqb-true, not-false, or_parts}
use Rattle.std.proofs.lemmas.List.{get_or-drop}
use Rattle.std.proofs.lemmas.Slice.Eq.{bytes_eq-Decides}
use Rattle.vm_types.specs.declared.identity.Identity.{Identity}
use Rattle.refusals.specs.declared.refusal.Refusal.TheVariants as refusal
use Rattle.file_format.specs.Format.{IsBytes}
use Rattle.file_format.specs.Starts.{Decodes, is_closed, is_other}
use Rattle.file_format.specs.Versions.{version_of}
use Rattle.file_format.specs.declared.error.DecodeError.{DecodeError}
use Rattle.snap_memory.specs.declared.header.MemHeader.{MemHeader}
use Rattle.snap_memory.specs.Headers as memory
use Rattle.snap_memory.proofs.Fronts as fronts
use Rattle.snap_state.specs.declared.copy.StateCopy.{StateCopy}
use Rattle.snap_state.specs.declared.file.Saved.{Saved}
use Rattle.snap_state.specs.Files as state
use Rattle.snap_state.proofs.Copies as copies
use Rattle.flat_snapshot.specs.Found.{memory_front, memory_judged, memory_read, state_in, state_read}
use Rattle.flat_snapshot.proofs.Loaded as loaded
use Rattle.snap_restore.specs.Finding.{Answers, FindCause, nothing_of, refused_by, state_of}

-- ---- a state file

-- bytes that begin as a state file does
starts : (given : List ℕ) → is_closed 32 given ≡ false → is_other (state.magic (version_of given)) given ≡ false
    → given ≡ 1 ∷ state.magic (version_of given) ++ drop 12 given
starts [] closed other = absurd (let k : true ≡ false = closed in cc)
starts (b ∷ rest) closed other =
    let first : b ≡ 1 = eqb-true b 1 (not-false _ (or_parts _ _ closed).1) in
    let magic : List ℕ = state.magic (version_of (b ∷ rest)) in
    let front : take 11 rest ≡ magic = (bytes_eq-Decides (take 11 rest) magic).0 (not-false _ other) in
    ap (λ (x : ℕ). x ∷ rest) first
    ∙ ap (λ (l : List ℕ). 1 ∷ l) (sym (take-append-drop 11 rest) ∙ ap (λ (l : List ℕ). l ++ drop 11 rest) front)

bytes_behind : (given : List ℕ) → IsBytes given → IsBytes (drop 12 given)
bytes_behind given bytes i = subst (λ (n : ℕ). n < 256) (sym (get_or-drop 12 given i 0)) (bytes (12 + i))

module _ (given : List ℕ) (bytes : IsBytes (drop 12 given)) (closed : is_closed 32 given ≡ false)
    (other : is_other (state.magic (version_of given)) given ≡ false) (none : (s : Saved) → state.Encodes given s → ⊥) where
  by_test : (read : (ℕ × (Identity × StateCopy)) × List ℕ) → (state.contents (version_of given)).reads (drop 12 given) ≡ Some read → (b : Bool)
      → state.is_accepted (length (drop 12 given)) (length read.1) read.0.0 read.0.1.0 read.0.1.1 ≡ b
      → state_read (length (drop 12 given)) (Some read) ≡ Err refusal.BadField
  by_test read is true accepts =
      let held = copies.accepted (version_of given) (drop 12 given) read.0.0 read.0.1.0 read.0.1.1 read.1 bytes is (length read.1) true refl (sym accepts) refl in
      absurd (none (record { identity = read.0.1.0; copy = read.0.1.1 })
      (record { saved = held.saved; bytes = starts given closed other ∙ ap (λ (l : List ℕ). 1 ∷ state.magic (version_of given) ++ l) held.bytes }))
  by_test read is false refuses = ap (λ (b : Bool). if b then Ok read.0.1 else Err refusal.BadField) refuses

  bad_read : (o : Option ((ℕ × (Identity × StateCopy)) × List ℕ)) → (state.contents (version_of given)).reads (drop 12 given) ≡ o
      → state_read (length (drop 12 given)) o ≡ Err refusal.BadField
  bad_read None is = refl
  bad_read (Some read) is = by_test read is _ refl

  bad_state : state_in given ≡ Err refusal.BadField
  bad_state =
      ap (λ (b : Bool). if b then Err refusal.GateClosed
      else (if is_other (state.magic (version_of given)) given then Err refusal.WrongMagic
      else state_read (length (drop 12 given)) ((state.contents (version_of given)).reads (drop 12 given)))) closed
      ∙ ap (λ (b : Bool). if b then Err refusal.WrongMagic
      else state_read (length (drop 12 given)) ((state.contents (version_of given)).reads (drop 12 given))) other
      ∙ bad_read ((state.contents (version_of given)).reads (drop 12 given)) refl

pub state_refused : (given : List ℕ) (why : DecodeError) → IsBytes given → Decodes 32 (state.magic (version_of given)) state.Encodes given (Err why)
    → Answers state_of (Err (refused_by why)) (state_in given)
state_refused given DecodeError.GateClosed bytes closed =
    ap (λ (b : Bool). if b then Err refusal.GateClosed
    else (if is_other (state.magic (version_of given)) given then Err refusal.WrongMagic
    else state_read (length (drop 12 given)) ((state.contents (version_of given)).reads (drop 12 given)))) closed
state_refused given DecodeError.WrongMagic bytes (opens, other) =
    ap (λ (b : Bool). if b then Err refusal.GateClosed
    else (if is_other (state.magic (version_of given)) given then Err refusal.WrongMagic
    else state_read (length (drop 12 given)) ((state.contents (version_of given)).reads (drop 12 given)))) opens
    ∙ ap (λ (b : Bool). if b then Err refusal.WrongMagic
    else state_read (length (drop 12 given)) ((state.contents (version_of given)).reads (drop 12 given))) other
state_refused given DecodeError.BadField bytes (opens, known, none) = bad_state given (bytes_behind given bytes) opens known none
state_refused given DecodeError.OutOfMemory bytes free = tt

-- the refusal of bytes is no fault
pub refused_cause : (T : Type 0) (why : DecodeError) (n : ℕ) → FindCause {T = T} (Err (refused_by why)) n n
refused_cause T DecodeError.GateClosed n = refl
refused_cause T DecodeError.WrongMagic n = refl
refused_cause T DecodeError.BadField n = refl
refused_cause T DecodeError.OutOfMemory n = refl

pub state_good : (given : List ℕ) (s : Saved) → state.Encodes given s → Answers state_of (Ok s) (state_in given)
state_good given s e = loaded.state_of_file given s e

-- ---- the front of a memory file

module _ (i : Identity) (pages size : ℕ) (front : List ℕ) (bytes : IsBytes front) (closed : is_closed 4096 front ≡ false)
    (other : is_other memory.magic front ≡ false) (none : (h : MemHeader) → memory.Begins front h → ⊥) where
  by_rules : (read : MemHeader × List ℕ) → memory.header.reads front ≡ Some read → (b : Bool) → memory.is_valid read.0 ≡ b
      → memory_read i pages size (Some read) ≡ Err refusal.BadField
  by_rules read is true valid = absurd (none read.0 (fronts.begun front read.0 read.1 true bytes is (sym valid) refl))
  by_rules read is false broken = ap (λ (b : Bool). if b then memory_judged i pages size read.0 else Err refusal.BadField) broken

  bad_header : (o : Option (MemHeader × List ℕ)) → memory.header.reads front ≡ o → memory_read i pages size o ≡ Err refusal.BadField
  bad_header None is = refl
  bad_header (Some read) is = by_rules read is _ refl

  bad_memory : memory_front i pages size front ≡ Err refusal.BadField
  bad_memory =
      ap (λ (b : Bool). if b then Err refusal.GateClosed
      else (if is_other memory.magic front then Err refusal.WrongMagic
      else memory_read i pages size (memory.header.reads front))) closed
      ∙ ap (λ (b : Bool). if b then Err refusal.WrongMagic else memory_read i pages size (memory.header.reads front)) other
      ∙ bad_header (memory.header.reads front) refl

pub memory_refused : (i : Identity) (pages size : ℕ) (front : List ℕ) (why : DecodeError) → IsBytes front
    → Decodes 4096 memory.magic memory.Begins front (Err why) → Answers nothing_of (Err (refused_by why)) (memory_front i pages size front)
memory_refused i pages size front DecodeError.GateClosed bytes closed =
    ap (λ (b : Bool). if b then Err refusal.GateClosed
    else (if is_other memory.magic front then Err refusal.WrongMagic
    else memory_read i pages size (memory.header.reads front))) closed
memory_refused i pages size front DecodeError.WrongMagic bytes (opens, other) =
    ap (λ (b : Bool). if b then Err refusal.GateClosed
    else (if is_other memory.magic front then Err refusal.WrongMagic
    else memory_read i pages size (memory.header.reads front))) opens
    ∙ ap (λ (b : Bool). if b then Err refusal.WrongMagic else memory_read i pages size (memory.header.reads front)) other
memory_refused i pages size front DecodeError.BadField bytes (opens, known, none) = bad_memory i pages size front bytes opens known none
memory_refused i pages size front DecodeError.OutOfMemory bytes free = tt
