-- What a load finds under the names of a snapshot's two files, or the first refusal that fits.
use Rattle.std.specs.Prelude.{ℕ, ◌+◌, ◌*◌, ◌==◌, ◌&&◌, not, if◌then◌else◌, List, length, take, drop}
use Rattle.std.specs.Prelude.{Option, Some, None, Result, Ok, Err}
use Rattle.std.specs.FinMap.{get}
use Rattle.vm_types.specs.Saved.{Saved}
use Rattle.vm_types.specs.declared.identity.Identity.{Identity}
use Rattle.refusals.specs.declared.refusal.Refusal.{Refusal}
use Rattle.refusals.specs.declared.refusal.Refusal.TheVariants as refusal
use Rattle.api_calls.specs.declared.call.SnapshotFiles.{SnapshotFiles}
use Rattle.api_calls.specs.Call.{◌>>=◌}
use Rattle.guest_memory.specs.Ram.{page_size}
use Rattle.file_format.specs.Identities.{is_same}
use Rattle.file_format.specs.Starts.{is_closed, is_other}
use Rattle.file_format.specs.Versions.{version_of}
use Rattle.snap_memory.specs.declared.header.MemHeader.{MemHeader}
use Rattle.snap_memory.specs.Headers as memory
use Rattle.snap_state.specs.declared.copy.StateCopy.{StateCopy}
use Rattle.snap_state.specs.Files as state

-- a snapshot: its identity, its copy, and the bytes of its memory
pub record Snapshot : Type 0 where
  pub identity : Identity
  pub copy : StateCopy
  pub bytes : List ℕ

-- ---- the state file

-- what was read of the body, with what is left behind it
abbrev pub state_read : ℕ → Option ((ℕ × (Identity × StateCopy)) × List ℕ) → Result (Identity × StateCopy) Refusal
state_read size None = Err refusal.BadField
state_read size (Some read) =
    if state.is_accepted size (length read.1) read.0.0 read.0.1.0 read.0.1.1 then Ok read.0.1 else Err refusal.BadField

-- behind gate and magic, which are 12 bytes
abbrev pub state_in : List ℕ → Result (Identity × StateCopy) Refusal
state_in given =
    if is_closed 32 given then Err refusal.GateClosed
    else (if is_other (state.magic (version_of given)) given then Err refusal.WrongMagic
    else state_read (length (drop 12 given)) ((state.contents (version_of given)).reads (drop 12 given)))

abbrev pub state_found : Option (List ℕ) → Result (Identity × StateCopy) Refusal
state_found None = Err refusal.NoSuchFile
state_found (Some given) = state_in given

-- ---- the memory file, of so many bytes

-- a merge is unfinished; the sizes differ; it is of another snapshot
abbrev pub memory_judged : Identity → ℕ → ℕ → MemHeader → Result (Unit {0}) Refusal
memory_judged identity pages size h =
    if not (h.merging == 0) then Err refusal.MergeUnfinished
    else (if not ((h.pages == pages) && (size == 4096 + page_size * pages)) then Err refusal.SizesDiffer
    else (if not (is_same (memory.identity_of h) identity) then Err refusal.ParentDiffers
    else Ok tt))

abbrev pub memory_read : Identity → ℕ → ℕ → Option (MemHeader × List ℕ) → Result (Unit {0}) Refusal
memory_read identity pages size None = Err refusal.BadField
memory_read identity pages size (Some read) =
    if memory.is_valid read.0 then memory_judged identity pages size read.0 else Err refusal.BadField

-- by its first 4,096 bytes, or all of a shorter one
abbrev pub memory_front : Identity → ℕ → ℕ → List ℕ → Result (Unit {0}) Refusal
memory_front identity pages size front =
    if is_closed 4096 front then Err refusal.GateClosed
    else (if is_other memory.magic front then Err refusal.WrongMagic
    else memory_read identity pages size (memory.header.reads front))

-- what stands behind the header of a file that is this memory's
abbrev pub pages_in : Identity → ℕ → List ℕ → Result (List ℕ) Refusal
pages_in identity pages given = do
  _ ← memory_front identity pages (length given) (take 4096 given)
  Ok (drop 4096 given)

abbrev pub memory_found : Identity → ℕ → Option (List ℕ) → Result (List ℕ) Refusal
memory_found identity pages None = Err refusal.NoSuchFile
memory_found identity pages (Some given) = pages_in identity pages given

-- ---- both: the state file is looked at first

unfoldable pub found : Saved → SnapshotFiles → Result Snapshot Refusal
found saved files = do
  state ← state_found (get saved files.snapshot_path)
  bytes ← memory_found state.0 state.1.pages (get saved files.mem_file_path)
  Ok (record { identity = state.0; copy = state.1; bytes = bytes })
