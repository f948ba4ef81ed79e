-- What the parts of the code answer.
use Rattle.std.specs.Prelude.{◌≡◌, ◌≢◌, ℕ, ◌+◌, ◌*◌, Bool, true, false, if◌then◌else◌, IsTrue, List, length, take, drop, replicate, Option, Some, None, Result, Ok, Err}
use Rattle.std.specs.FinMap.{get}
use Rattle.std.specs.List.{AllByRecursion}
use Rattle.vm_types.specs.Saved.{Saved}
use Rattle.vm_outside.specs.Filing.{IsReadAt}
use Rattle.refusals.specs.declared.refusal.Refusal.{Refusal}
use Rattle.refusals.specs.declared.refusal.Refusal.TheVariants as refusal
use Rattle.gate_file.specs.declared.file_error.FileError.{FileError}
use Rattle.guest_memory.specs.Ram.{page_size}
use Rattle.file_format.specs.declared.error.DecodeError.{DecodeError}
use Rattle.snap_memory.specs.declared.header.MemHeader.{MemHeader}
use Rattle.snap_diff.specs.Copies.{DiffCopy}
use Rattle.snap_diff.specs.declared.header.DiffHeader.{DiffHeader}
use Rattle.snap_diff.specs.declared.run.Run.{Run}
use Rattle.snap_diff.specs.Diffs.{Begins, IsDiffFile, IsTable, entry, is_table, size_behind, table_size}
use Rattle.snap_diff.specs.Found.{diff_found}
use Rattle.snap_diff.specs.Headers.{are_names, header}
use Rattle.snap_diff.specs.Runs.{numbers_from}
use Rattle.snapshot_merge.specs.Calls.{page_writes}
use Rattle.snapshot_merge.specs.declared.error.RebaseError.{RebaseError}
use Rattle.snapshot_merge.specs.declared.error.RebaseError.TheVariants.{Refused, Fault, OutOfMemory}
use Rattle.snapshot_merge.specs.declared.finding.DiffStart.{DiffStart}
use Rattle.snapshot_merge.specs.declared.finding.Pair.{Pair}

-- it is what is found, or refused so; a fault and want of memory say nothing
abbrev pub Answers : {A B : Type 0} → (A → B → Type 0) → Result A RebaseError → Result B Refusal → Type 0
Answers {A} {B} Is (Ok it) found = (what : B) × ((found ≡ Ok what) × Is it what)
Answers Is (Err (Refused why)) found = found ≡ Err why
Answers Is (Err Fault) found = Unit {0}
Answers Is (Err OutOfMemory) found = Unit {0}

-- the same value
abbrev pub Same : {A : Type 0} → A → A → Type 0
Same a b = a ≡ b

-- the diff has so many pages
abbrev pub HasPages : ℕ → DiffCopy → Type 0
HasPages count d = count ≡ length d.numbers

-- the refusal of bytes that are no file of theirs
abbrev pub refused_by : DecodeError → RebaseError
refused_by DecodeError.GateClosed = Refused refusal.GateClosed
refused_by DecodeError.WrongMagic = Refused refusal.WrongMagic
refused_by DecodeError.BadField = Refused refusal.BadField
refused_by DecodeError.OutOfMemory = OutOfMemory

-- the header and the runs of this file, which is the diff's
pub record IsStartOf (given : List ℕ) (start : DiffStart) (d : DiffCopy) : Type 0 where
  pub file : IsDiffFile given d
  pub header : start.header ≡ file.parts_of.header
  pub runs : start.runs ≡ file.parts_of.runs

abbrev pub IsStartIn : Option (List ℕ) → DiffStart → DiffCopy → Type 0
IsStartIn None start d = ⊥
IsStartIn (Some given) start d = IsStartOf given start d

-- what both files are found as
pub record IsPairIn (diff : Option (List ℕ)) (pair : Pair) (both : MemHeader × DiffCopy) : Type 0 where
  pub base : pair.base ≡ both.0
  pub start : IsStartIn diff pair.diff both.1

-- a diff's file by its first 64 bytes and its size
abbrev pub StartJudged : List ℕ → Result DiffHeader RebaseError → Type 0
StartJudged given (Ok h) = Begins (take 64 given) h × (length given ≡ 64 + size_behind h)
StartJudged given (Err (Refused why)) = diff_found (Some given) ≡ Err why
StartJudged given (Err Fault) = Unit {0}
StartJudged given (Err OutOfMemory) = Unit {0}

-- why a file was not read
abbrev pub failed_by : FileError → RebaseError
failed_by FileError.Fault = Fault
failed_by FileError.OutOfMemory = OutOfMemory

-- by its table too
abbrev pub TableJudged : List ℕ → DiffHeader → Result (List Run) RebaseError → Type 0
TableJudged given h (Ok runs) = IsTable h (take (table_size h) (drop 64 given)) runs
TableJudged given h (Err (Refused why)) = diff_found (Some given) ≡ Err why
TableJudged given h (Err Fault) = Unit {0}
TableJudged given h (Err OutOfMemory) = Unit {0}

-- a file that begins with this header, is as long as it says, and has the table of these runs
pub record HasTable (given : List ℕ) (h : DiffHeader) (runs : List Run) : Type 0 where
  pub begins : Begins (take 64 given) h
  pub size : length given ≡ 64 + size_behind h
  pub table : IsTable h (take (table_size h) (drop 64 given)) runs

-- as many as the header says, each of which an entry can have, and a table
pub record AreRunsOf (h : DiffHeader) (runs : List Run) : Type 0 where
  pub count : length runs ≡ h.count
  pub fit : AllByRecursion (entry h.version).Fits runs
  pub table : IsTrue (is_table h runs)

-- a header that there is, with two snapshots' names
pub record IsHeader (h : DiffHeader) : Type 0 where
  pub fits : header.Fits h
  pub names : IsTrue (are_names h.names)

-- both, whatever the files tell
pub record IsWhole (h : DiffHeader) (runs : List Run) : Type 0 where
  pub head : IsHeader h
  pub runs_are : AreRunsOf h runs

-- a page of this kind: of the file, from this offset on, or of zeros
abbrev pub IsPage : Option (List ℕ) → Bool → ℕ → List ℕ → Type 0
IsPage content true at page = IsReadAt content at page
IsPage content false at page = page ≡ replicate (length page) 0

-- the pages of a run, if the stored ones are these
abbrev pub run_bytes : Run → List ℕ → List ℕ
run_bytes r stored = if r.stored then take (page_size * r.length) stored else replicate (page_size * r.length) 0

-- what is written to a base for them
abbrev pub run_writes : Run → List ℕ → List (ℕ × List ℕ)
run_writes r stored = page_writes (numbers_from r.first r.length) (run_bytes r stored)

-- the pages of a diff can be read from its file, which isn't the base
pub record AreThere (base diff : List ℕ) (start : DiffStart) (d : DiffCopy) (saved : Saved) : Type 0 where
  pub differ : diff ≢ base
  pub there : IsStartIn (get saved diff) start d
