-- What a convert answers, and what it leaves of files that tell what they hold.
use Rattle.std.specs.Prelude.{◌≡◌, ◌⊎◌, ℕ, if◌then◌else◌, List, Result, Ok, Err}
use Rattle.std.specs.FinMap.{get}
use Rattle.std.specs.Str.{bytes_eq}
use Rattle.vm_types.specs.Saved.{Saved}
use Rattle.refusals.specs.declared.refusal.Refusal.{Refusal}
use Rattle.refusals.specs.declared.refusal.Refusal.TheVariants as refusal
use Rattle.vm_outside.specs.Calls.{FileCall}
use Rattle.vm_outside.specs.Filing.{SameFiles}
use Rattle.vm_outside.specs.Known.{FilesKnown}
use Rattle.gate_file.specs.Runs.{RunsAll, RunsPart}
use Rattle.file_format.specs.Versions.{current_version}
use Rattle.snap_diff.specs.Copies.{DiffCopy}
use Rattle.snap_diff.specs.Diffs.{parts, parts_in}
use Rattle.snap_diff.specs.Found.{diff_found}
use Rattle.snap_writer.specs.Saving.{saving_calls}
use Rattle.snapshot_merge.specs.declared.error.RebaseError.{RebaseError}
use Rattle.snapshot_merge.specs.declared.error.RebaseError.TheVariants.{Refused, Fault, OutOfMemory}
use Rattle.diff_convert.specs.Planning.{head_of, pages_of}

-- Names that are equal are refused before anything is looked at. Then the diff is what is found under the first.
abbrev pub found_in : Saved → List ℕ → List ℕ → Result DiffCopy Refusal
found_in saved from to = if bytes_eq from to then Err refusal.OutOfRange else diff_found (get saved from)

-- its file, in the version that is written
abbrev pub file_of : DiffCopy → List ℕ
file_of d = parts.bytes (parts_in current_version d)

abbrev pub calls_of : List ℕ → DiffCopy → List FileCall
calls_of to d = saving_calls to (head_of d) (pages_of d)

-- all was written: the second name holds that file, and nothing else changed
pub record Converts (from to : List ℕ) (old new : FilesKnown) : Type 0 where
  pub diff : DiffCopy
  pub found : found_in old.saved from to ≡ Ok diff
  pub runs : RunsAll to (calls_of to diff) (file_of diff) old new

-- a call of it failed: the first were done, and every name but the second holds what it held
pub record ConvertsPart (from to : List ℕ) (old new : FilesKnown) : Type 0 where
  pub diff : DiffCopy
  pub found : found_in old.saved from to ≡ Ok diff
  pub runs : RunsPart to (calls_of to diff) old new

-- it is the first refusal that fits, and no file is changed
pub record Refuses (from to : List ℕ) (why : Refusal) (old new : FilesKnown) : Type 0 where
  pub found : found_in old.saved from to ≡ Err why
  pub same : SameFiles old new

-- By what it answers. A call that failed may have been one that reads.
abbrev pub Leaves : {T : Type 0} → List ℕ → List ℕ → Result T RebaseError → FilesKnown → FilesKnown → Type 0
Leaves from to (Ok done) old new = Converts from to old new
Leaves from to (Err (Refused why)) old new = Refuses from to why old new
Leaves from to (Err Fault) old new = SameFiles old new ⊎ ConvertsPart from to old new
Leaves from to (Err OutOfMemory) old new = SameFiles old new
