-- What an answer is of what the flat machine finds.
use Rattle.std.specs.Prelude.{◌≡◌, ℕ, ◌+◌, ◌==◌, nat_le, ◌&&◌, if◌then◌else◌, List, length, take, drop}
use Rattle.std.specs.Prelude.{Option, Some, None, Result, Ok, Err}
use Rattle.std.specs.Int.{w32, from_le_bytes}
use Rattle.vm_types.specs.Causes.{Rose}
use Rattle.vm_types.specs.declared.identity.Identity.{Identity}
use Rattle.refusals.specs.declared.refusal.Refusal.{Refusal}
use Rattle.refusals.specs.declared.refusal.Refusal.TheVariants as refusal
use Rattle.guest_pages.specs.Pages.{flat_of}
use Rattle.file_format.specs.declared.error.DecodeError.{DecodeError}
use Rattle.file_format.specs.Starts.{is_closed, is_other}
use Rattle.file_format.specs.Versions.{version_of}
use Rattle.snap_state.specs.Files as state
use Rattle.snap_state.specs.declared.copy.StateCopy.{StateCopy}
use Rattle.snap_state.specs.declared.file.Saved.{Saved}
use Rattle.flat_snapshot.specs.Found.{Snapshot, memory_front}
use Rattle.snap_restore.specs.declared.finding.FindError.{FindError}
use Rattle.snap_restore.specs.declared.finding.FindError.TheVariants.{Refused, Fault, OutOfMemory}
use Rattle.snap_restore.specs.declared.finding.FoundSnapshot.{FoundSnapshot}

-- it is found, or refused so; a fault and want of memory say nothing
abbrev pub Answers : {A B : Type 0} → (A → B) → Result A FindError → Result B Refusal → Type 0
Answers of (Ok it) found = found ≡ Ok (of it)
Answers of (Err (Refused why)) found = found ≡ Err why
Answers of (Err Fault) found = Unit {0}
Answers of (Err OutOfMemory) found = Unit {0}

abbrev pub state_of : Saved → Identity × StateCopy
state_of s = (s.identity, s.copy)

abbrev pub size_of : ℕ → ℕ
size_of size = size

abbrev pub nothing_of : Unit {0} → Unit {0}
nothing_of u = tt

-- how many bytes the body of a state file has, as its header says: the number of 32 bits at byte 12
abbrev pub said_length : List ℕ → ℕ
said_length front = from_le_bytes w32 (take 4 (drop 12 front))

-- no state file is longer, by the rules of a copy: most of it are reservations, one for a page and a hart at most
abbrev pub most_bytes : ℕ
most_bytes = 0x2000_0000

-- A state file of this size, by its first 32 bytes or all of a shorter one: the refusal that they tell, or its size, which
-- is what the header says.
abbrev pub size_judged : ℕ → List ℕ → Result ℕ Refusal
size_judged size front =
    if is_closed 32 front then Err refusal.GateClosed
    else (if is_other (state.magic (version_of front)) front then Err refusal.WrongMagic
    else (if (said_length front + 32 == size) && nat_le size most_bytes then Ok size else Err refusal.BadField))

abbrev pub size_found : Option (List ℕ) → Result ℕ Refusal
size_found None = Err refusal.NoSuchFile
size_found (Some given) = size_judged (length given) (take 32 given)

-- what the front of a memory file is found as, or that there is none
abbrev pub front_found : Identity → ℕ → Option (List ℕ) → Result (Unit {0}) Refusal
front_found identity pages None = Err refusal.NoSuchFile
front_found identity pages (Some given) = memory_front identity pages (length given) (take 4096 given)

abbrev pub snapshot_of : FoundSnapshot → Snapshot
snapshot_of f = record { identity = f.identity; copy = f.copy; bytes = (flat_of f.pages.pages).bytes }

-- the refusal of bytes that are no file of theirs
abbrev pub refused_by : DecodeError → FindError
refused_by DecodeError.GateClosed = Refused refusal.GateClosed
refused_by DecodeError.WrongMagic = Refused refusal.WrongMagic
refused_by DecodeError.BadField = Refused refusal.BadField
refused_by DecodeError.OutOfMemory = OutOfMemory

-- a failure has a fault, and what did not come to one has none
abbrev pub FindCause : {T : Type 0} → Result T FindError → ℕ → ℕ → Type 0
FindCause (Ok it) before now = now ≡ before
FindCause (Err Fault) before now = Rose before now
FindCause (Err why) before now = now ≡ before
