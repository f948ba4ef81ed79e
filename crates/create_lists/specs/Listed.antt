-- Files that hold what a list of creates made.
use Rattle.std.specs.Prelude.{◌≡◌, ◌≢◌, ◌<◌, ◌⊎◌, ℕ, ◌+◌, ◌*◌, ◌==◌, false, MatchBool, List, [], ◌∷◌, Option, Some, None, slice_get, slice_index}
use Rattle.vm_types.specs.declared.identity.Identity.{Identity}
use Rattle.vm_outside.specs.Calls.{FileCall}
use Rattle.vm_outside.specs.Crashes.{Disk, Images}
use Rattle.gate_file.specs.Pairs.{Target, text_of}
use Rattle.guest_memory.specs.Ram.{page_size}
use Rattle.file_format.specs.Format.{IsBytes}
use Rattle.snap_memory.specs.declared.header.MemHeader.{MemHeader}
use Rattle.snap_memory.specs.declared.slot.Slot.{Slot}
use Rattle.snap_diff.specs.Copies.{DiffCopy, IsDiffOf, IsWhole, MemoryCopy, diff_of, has_page}
use Rattle.snap_diff.specs.Diffs.{IsDiffFile}
use Rattle.snap_state.specs.declared.copy.StateCopy.{StateCopy}
use Rattle.snap_state.specs.declared.file.Saved.{Saved}
use Rattle.snap_state.specs.Files.{Encodes}
use Rattle.snapshot_merge.specs.Memories.{Holds, IsMemoryFile}
use Rattle.snapshot_merge.specs.Merges.{open_slots}
use Rattle.flat_snapshot.specs.Found.{Snapshot}

-- ---- a create

-- What it made: its identity, the snapshot since which its pages were written if it is a diff, the copy of the machine, the
-- bytes of the whole memory that it found, and which pages a diff has.
pub record Create : Type 0 where
  pub identity : Identity
  pub base : Option Identity
  pub copy : StateCopy
  pub bytes : List ℕ
  pub numbers : List ℕ

abbrev pub memory_of : Create → MemoryCopy
memory_of c = record { identity = c.identity; pages = c.copy.pages; bytes = c.bytes }

abbrev pub diff_since : Identity → Create → DiffCopy
diff_since parent c = diff_of parent (memory_of c) c.numbers

abbrev pub saved_of : Create → Saved
saved_of c = record { identity = c.identity; copy = c.copy }

-- what a load of it finds
abbrev pub snapshot_of : Create → Snapshot
snapshot_of c = record { identity = c.identity; copy = c.copy; bytes = c.bytes }

-- ---- a list of them

abbrev pub IsAmong : Create → List Create → Type 0
IsAmong c [] = ⊥
IsAmong c (other ∷ creates) = (c ≡ other) ⊎ IsAmong c creates

-- Creates of different identities, each of a whole memory. The base of each diff among them is one of them, and the diff has
-- what was written since that.
pub record AreCreates (creates : List Create) : Type 0 where
  pub whole : (c : Create) → IsAmong c creates → IsWhole (memory_of c)
  pub one : (c e : Create) → IsAmong c creates → IsAmong e creates → c.identity ≡ e.identity → c ≡ e
  pub based : (e : Create) (parent : Identity) → IsAmong e creates → e.base ≡ Some parent
      → (c : Create) × (IsAmong c creates × (c.identity ≡ parent) × IsDiffOf (memory_of c) (memory_of e) (diff_since parent e))

-- ---- files that agree with it

-- the whole memory of one of them
abbrev pub IsWholeOf : List Create → MemoryCopy → Type 0
IsWholeOf creates m = (c : Create) × (IsAmong c creates × (m ≡ memory_of c))

-- The memory is one's, and the slot names a diff since that; each byte outside that diff's pages is the one's.
pub record IsPartOf (creates : List Create) (slot : Slot) (m : MemoryCopy) : Type 0 where
  pub c : Create
  pub e : Create
  pub is : IsAmong c creates
  pub also : IsAmong e creates
  pub of : m.identity ≡ c.identity
  pub names : slot.identity ≡ e.identity
  pub base : e.base ≡ Some c.identity
  pub pages : m.pages ≡ c.copy.pages
  pub others : (number at : ℕ) → at < page_size → has_page (diff_since c.identity e) number ≡ false
      → slice_index m.bytes (page_size * number + at) ≡ slice_index c.bytes (page_size * number + at)

-- an unfinished merge, told by its next slot: with a number in it some of the diff's pages may be there
abbrev pub IsMergeInto : List Create → Option Slot → MemoryCopy → Type 0
IsMergeInto creates None m = IsWholeOf creates m
IsMergeInto creates (Some slot) m =
    MatchBool (slot.identity.number == 0) (IsWholeOf creates m) (IsPartOf creates slot m)

-- A file that is a state file, a memory file or a diff is one of the list's; and what only its merging byte keeps from being
-- a memory file is an unfinished merge of the list.
pub record AgreesText (creates : List Create) (text : List ℕ) : Type 0 where
  pub state : (s : Saved) → Encodes text s → (c : Create) × (IsAmong c creates × (s ≡ saved_of c))
  pub memory : (m : MemoryCopy) → IsMemoryFile text m → IsWholeOf creates m
  pub diff : (d : DiffCopy) → IsDiffFile text d
      → (c : Create) × ((parent : Identity) × (IsAmong c creates × (c.base ≡ Some parent) × (d ≡ diff_since parent c)))
  pub unfinished : (head : MemHeader) (m : MemoryCopy) → Holds text head m → head.merging ≢ 0
      → IsMergeInto creates (slice_get head.slots (open_slots head.slots)) m

abbrev pub Agrees : List Create → Disk → Type 0
Agrees creates disk = (name text : List ℕ) → disk name ≡ Some text → AgreesText creates text

-- in every image
abbrev pub AgreeAll : List Create → List FileCall → Type 0
AgreeAll creates before = (disk : Disk) → Images before disk → Agrees creates disk

-- what each file holds are bytes
abbrev pub HoldsBytes : Disk → Type 0
HoldsBytes disk = (name text : List ℕ) → disk name ≡ Some text → IsBytes text

-- in every image
abbrev pub HoldBytes : List FileCall → Type 0
HoldBytes before = (disk : Disk) → Images before disk → HoldsBytes disk

-- ---- the files of a create

-- what it writes under the name of the memory: all of it, or a diff
abbrev pub IsMemoryOf : Create → Option Identity → List ℕ → Type 0
IsMemoryOf c None text = IsMemoryFile text (memory_of c)
IsMemoryOf c (Some parent) text = IsDiffFile text (diff_since parent c)

pub record AreFilesOf (c : Create) (memory state : Target) : Type 0 where
  pub memory_is : IsMemoryOf c c.base (text_of memory)
  pub state_is : Encodes (text_of state) (saved_of c)
