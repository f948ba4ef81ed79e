-- What a file is found to be as a diff, or the first refusal that fits. Each part is judged by its own bytes.
use Rattle.std.specs.Prelude.{ℕ, ◌==◌, if◌then◌else◌, List, length, take, drop, Option, Some, None, Result, Ok, Err}
use Rattle.refusals.specs.declared.refusal.Refusal.{Refusal}
use Rattle.refusals.specs.declared.refusal.Refusal.TheVariants as refusal
use Rattle.file_format.specs.Kinds.{times}
use Rattle.file_format.specs.Starts.{is_closed, is_other}
use Rattle.file_format.specs.Versions.{version_of}
use Rattle.snap_diff.specs.declared.header.DiffHeader.{DiffHeader}
use Rattle.snap_diff.specs.declared.run.Run.{Run}
use Rattle.snap_diff.specs.Copies.{DiffCopy}
use Rattle.snap_diff.specs.Headers.{are_names, header, magic}
use Rattle.snap_diff.specs.Diffs.{are_stored, copy_of, entry, is_table, size_behind, table_size}

-- the stored pages, behind runs that are a table
abbrev pub pages_read : DiffHeader → List Run → List ℕ → Result DiffCopy Refusal
pages_read h runs stored =
    if are_stored h.version h.stored stored then Ok (copy_of (record { header = h; runs = runs; stored = stored }))
    else Err refusal.BadField

-- the table that was read, before these pages
abbrev pub table_read : DiffHeader → List ℕ → Option (List Run × List ℕ) → Result DiffCopy Refusal
table_read h stored None = Err refusal.BadField
table_read h stored (Some read) = if is_table h read.0 then pages_read h read.0 stored else Err refusal.BadField

-- behind the header are as many entries and pages as it says, and no more
abbrev pub rest_read : DiffHeader → List ℕ → Result DiffCopy Refusal
rest_read h rest =
    if length rest == size_behind h
    then table_read h (drop (table_size h) rest) ((times h.count (entry h.version)).reads (take (table_size h) rest))
    else Err refusal.BadField

-- the header that was read, before the rest
abbrev pub header_read : List ℕ → Option (DiffHeader × List ℕ) → Result DiffCopy Refusal
header_read rest None = Err refusal.BadField
header_read rest (Some read) = if are_names read.0.names then rest_read read.0 rest else Err refusal.BadField

-- by its first 64 bytes, and the rest: shorter than its header, or its gate is closed; of another kind or version; no
-- diff has these bytes
abbrev pub diff_front : List ℕ → List ℕ → Result DiffCopy Refusal
diff_front front rest =
    if is_closed 64 front then Err refusal.GateClosed
    else (if is_other (magic (version_of front)) front then Err refusal.WrongMagic
    else header_read rest (header.reads front))

abbrev pub diff_found : Option (List ℕ) → Result DiffCopy Refusal
diff_found None = Err refusal.NoSuchFile
diff_found (Some given) = diff_front (take 64 given) (drop 64 given)
