-- What a file is found to be as the base of a merge, or the first refusal that fits. Whether a merge into it is
-- unfinished isn't asked yet.
use Rattle.std.specs.Prelude.{ℕ, ◌+◌, ◌*◌, ◌==◌, if◌then◌else◌, List, length, take, Option, Some, None, Result, Ok, Err}
use Rattle.refusals.specs.declared.refusal.Refusal.{Refusal}
use Rattle.refusals.specs.declared.refusal.Refusal.TheVariants as refusal
use Rattle.file_format.specs.Starts.{is_closed, is_other}
use Rattle.guest_memory.specs.Ram.{page_size}
use Rattle.snap_memory.specs.declared.header.MemHeader.{MemHeader}
use Rattle.snap_memory.specs.Headers.{header, is_valid, magic}

-- the file has as many bytes as its header says
abbrev pub base_sized : ℕ → MemHeader → Result MemHeader Refusal
base_sized size h = if size == 4096 + page_size * h.pages then Ok h else Err refusal.SizesDiffer

-- what was read, with what is left behind it
abbrev pub base_read : ℕ → Option (MemHeader × List ℕ) → Result MemHeader Refusal
base_read size None = Err refusal.BadField
base_read size (Some read) = if is_valid read.0 then base_sized size read.0 else Err refusal.BadField

-- by its first 4,096 bytes, or all of a shorter one: its gate is closed; of another kind or version; no header; another size
abbrev pub base_front : ℕ → List ℕ → Result MemHeader Refusal
base_front size front =
    if is_closed 4096 front then Err refusal.GateClosed
    else (if is_other magic front then Err refusal.WrongMagic else base_read size (header.reads front))

abbrev pub base_found : Option (List ℕ) → Result MemHeader Refusal
base_found None = Err refusal.NoSuchFile
base_found (Some given) = base_front (length given) (take 4096 given)
