-- The two files of a snapshot, and the calls that write them. Each is a total function: whether a file of these bytes
-- is one that can be loaded is for the load to judge.
use Rattle.std.specs.Prelude.{ℕ, List, ◌∷◌, ◌++◌, length, drop, Option, Some, None}
use Rattle.vm_types.specs.declared.identity.Identity.{Identity}
use Rattle.vm_outside.specs.Calls.{FileCall}
use Rattle.flat_guest.specs.Guest.{Guest, numbers_written}
use Rattle.file_format.specs.Versions.{current_version}
use Rattle.snap_memory.specs.Headers.{header, new_header}
use Rattle.snap_diff.specs.Copies.{DiffCopy, MemoryCopy, diff_of, pages_at}
use Rattle.snap_diff.specs.Headers as diffs
use Rattle.snap_diff.specs.Diffs.{header_in, runs_in, stored_pages, table_bytes}
use Rattle.snap_state.specs.declared.copy.StateCopy.{StateCopy}
use Rattle.snap_state.specs.Files as state
use Rattle.snap_writer.specs.Create.{create_calls}

-- ---- the memory file of a full snapshot

-- the header of a memory file of so many pages, behind its gate
unfoldable pub memory_head : Identity → ℕ → List ℕ
memory_head identity pages = drop 1 (header.bytes (new_header pages identity))

-- an open gate, the header and the bytes of memory
abbrev pub memory_file : Identity → ℕ → List ℕ → List ℕ
memory_file identity pages bytes = 1 ∷ memory_head identity pages ++ bytes

-- ---- that of a diff

-- a guest's memory of so many pages, as a snapshot of this identity has it
abbrev pub memory_in : Identity → ℕ → Guest → MemoryCopy
memory_in identity pages g = record { identity = identity; pages = pages; bytes = g.memory.bytes }

-- the diff of it since the parent: the pages that were written
abbrev pub diff_in : Identity → Identity → ℕ → Guest → DiffCopy
diff_in parent identity pages g = diff_of parent (memory_in identity pages g) (numbers_written g.written 0 pages)

-- the header and the table, behind the gate, in the version that is written
unfoldable pub diff_head : DiffCopy → List ℕ
diff_head d = drop 1 (diffs.header.bytes (header_in current_version d) ++ table_bytes current_version (runs_in current_version d))

-- an open gate, that, and the pages that are stored
abbrev pub diff_file : DiffCopy → List ℕ
diff_file d = 1 ∷ diff_head d ++ stored_pages current_version (length d.numbers) d.bytes

-- ---- either: a diff has a parent, and a full snapshot has none

-- what stands between the gate and the pages
abbrev pub head_of : Option Identity → Identity → ℕ → Guest → List ℕ
head_of None identity pages g = memory_head identity pages
head_of (Some parent) identity pages g = diff_head (diff_in parent identity pages g)

-- the pages that are stored
abbrev pub saved_pages : Option Identity → ℕ → Guest → List ℕ
saved_pages None pages g = g.memory.bytes
saved_pages (Some parent) pages g =
    stored_pages current_version (length (numbers_written g.written 0 pages)) (pages_at (numbers_written g.written 0 pages) g.memory.bytes)

-- ---- the state file

-- what stands behind the gate of a state file, in the version that is written
unfoldable pub state_body : Identity → StateCopy → List ℕ
state_body identity copy =
    state.magic current_version
    ++ (state.contents current_version).bytes (state.contents_of current_version (record { identity = identity; copy = copy }))

-- an open gate, and that
abbrev pub state_file : Identity → StateCopy → List ℕ
state_file identity copy = 1 ∷ state_body identity copy

-- ---- the calls of a create, in their order

abbrev pub calls_of : List ℕ → List ℕ → Option Identity → Identity → StateCopy → Guest → List FileCall
calls_of memory_path state_path parent identity copy g =
    create_calls memory_path (head_of parent identity copy.pages g) (saved_pages parent copy.pages g) state_path
    (state_body identity copy)
