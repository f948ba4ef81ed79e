-- What is to be written of a diff.
use Rattle.std.specs.Prelude.{◌≡◌, ℕ, List, ◌++◌, length, drop, Option, Some, None, Vec}
use Rattle.std.specs.Global.{Global}
use Rattle.file_format.specs.Versions.{current_version}
use Rattle.snap_diff.specs.declared.header.DiffHeader.{DiffHeader}
use Rattle.snap_diff.specs.declared.run.Run.{Run}
use Rattle.snap_diff.specs.Copies.{DiffCopy}
use Rattle.snap_diff.specs.Diffs.{DiffParts, header_in, runs_in, stored_pages, table_bytes}
use Rattle.snap_diff.specs.Headers.{header}
use Rattle.snap_writer.specs.Selected.{selected}
use Rattle.diff_convert.specs.declared.planning.Plan.{Plan}

-- the header and the table, behind the gate, in the version that is written
abbrev pub head_of : DiffCopy → List ℕ
head_of d = drop 1 (header.bytes (header_in current_version d) ++ table_bytes current_version (runs_in current_version d))

-- the pages that are stored
abbrev pub pages_of : DiffCopy → List ℕ
pages_of d = stored_pages current_version (length d.numbers) d.bytes

-- a file's parts, by what was read of it
abbrev pub parts_here : DiffHeader → List Run → List ℕ → DiffParts
parts_here h runs stored = record { header = h; runs = runs; stored = stored }

abbrev pub numbers_in : Option (Vec ℕ Global) → Option (List ℕ)
numbers_in None = None
numbers_in (Some numbers) = Some numbers.items

-- of a diff whose file stores these bytes
pub record IsPlan (plan : Plan) (stored : List ℕ) (d : DiffCopy) : Type 0 where
  pub head_is : plan.head.items ≡ head_of d
  pub pages_are : selected (numbers_in plan.numbers) stored ≡ pages_of d
