-- A merge that is stopped at any moment, and run again.
use Rattle.std.specs.Prelude.{◌≡◌, ◌≢◌, ◌<◌, ℕ, List, [], ◌∷◌, Some, Ok, Err}
use Rattle.std.specs.FinMap.{get}
use Rattle.refusals.specs.declared.refusal.Refusal.TheVariants as refusal
use Rattle.vm_outside.specs.Calls.{FileCall}
use Rattle.vm_outside.specs.Crashes.{Disk, Images}
use Rattle.vm_outside.specs.Known.{FilesKnown}
use Rattle.gate_file.specs.Stages.{Moment, calls_of, text_after}
use Rattle.file_format.specs.Format.{IsBytes}
use Rattle.snap_memory.specs.declared.header.MemHeader.{MemHeader}
use Rattle.snap_diff.specs.Copies.{DiffCopy, Joins, MemoryCopy, overlaid}
use Rattle.snap_diff.specs.Diffs.{IsDiffFile}
use Rattle.snapshot_merge.specs.Calls.{stages}
use Rattle.snapshot_merge.specs.Memories.{Holds, IsMemoryFile}
use Rattle.snapshot_merge.specs.Merges.{open_slots}
use Rattle.snapshot_merge.specs.Plans.{Plan, planned}

-- ---- the base

-- What a merge begins with: bytes that are a file of this copy, in which a slot is left.
pub record IsBase (m : MemoryCopy) (text : List ℕ) : Type 0 where
  pub are_bytes : IsBytes text
  pub file : IsMemoryFile text m
  pub left : open_slots file.head.slots < 100

-- A memory file whose header says that a merge is unfinished: a load refuses it with 26.
pub record IsUnfinished (text : List ℕ) : Type 0 where
  pub head : MemHeader
  pub copy : MemoryCopy
  pub holds : Holds text head copy
  pub begun : head.merging ≢ 0

-- Run again over this diff's file and not stopped, the merge ends with a file of the copy that the diff makes.
pub record GoesOn (m : MemoryCopy) (d : DiffCopy) (file text : List ℕ) : Type 0 where
  pub plan : Plan
  pub planned : planned (Some text) (Some file) ≡ Ok plan
  pub end : IsMemoryFile (text_after (stages plan.merge plan.diff) text) (overlaid m d)

-- The base is a file of the old copy, or unfinished, and the merge can be run again; or it is a file of the copy that the
-- diff makes, and a merge of the same diff is refused with 27.
pub data Stands (m : MemoryCopy) (d : DiffCopy) (file text : List ℕ) : Type 0 where
  Old : IsMemoryFile text m → GoesOn m d file text → Stands m d file text
  Unfinished : IsUnfinished text → GoesOn m d file text → Stands m d file text
  Merged : IsMemoryFile text (overlaid m d) → planned (Some text) (Some file) ≡ Err refusal.ParentDiffers
      → Stands m d file text

-- a disk on which the base stands so, and the diff's file is there
pub record StandsOn (base diff : List ℕ) (m : MemoryCopy) (d : DiffCopy) (file : List ℕ) (disk : Disk) : Type 0 where
  pub text : List ℕ
  pub there : disk base ≡ Some text
  pub stands : Stands m d file text
  pub diff_there : disk diff ≡ Some file

-- All is done, and lasts: the base holds these bytes, which are a file of the copy that the diff makes, and so it does in every
-- image, in which the diff's file is there too.
pub record IsMerged (base diff : List ℕ) (m : MemoryCopy) (d : DiffCopy) (file : List ℕ) (now : FilesKnown) : Type 0 where
  pub text : List ℕ
  pub there : get now.saved base ≡ Some text
  pub are_bytes : IsBytes text
  pub merged : IsMemoryFile text (overlaid m d)
  pub settled : (disk : Disk) → Images now.calls disk → (disk base ≡ Some text) × (disk diff ≡ Some file)

-- ---- the stops

-- In every image as it begins the base is a file of the copy in which a slot is left, and the diff's file is this.
abbrev pub Begins : List ℕ → List ℕ → MemoryCopy → List ℕ → List FileCall → Type 0
Begins base diff m file before =
    (disk : Disk) → Images before disk
    → (text : List ℕ) × ((disk base ≡ Some text) × IsBase m text × (disk diff ≡ Some file))

-- The calls of a merge. What it finds as it begins is one of the images, and its plan is made of that.
pub record IsMerge (base diff file : List ℕ) (before calls : List FileCall) : Type 0 where
  pub image : Disk
  pub is : Images before image
  pub text : List ℕ
  pub there : image base ≡ Some text
  pub diff_there : image diff ≡ Some file
  pub plan : Plan
  pub planned : planned (Some text) (Some file) ≡ Ok plan
  pub makes : calls ≡ calls_of base (stages plan.merge plan.diff) text

-- Files as they are found after a stop: whatever calls they tell, each of their images has these two as some moment of the
-- stopped merge had them. After a power cut that is one moment for all images. After a killed process, or a call that failed,
-- the files may tell the calls that were made, and then each image is a moment of its own.
abbrev pub Restarts : List ℕ → List ℕ → List FileCall → List FileCall → List FileCall → Type 0
Restarts base diff before calls next =
    (disk : Disk) → Images next disk
    → (old : Disk) × Moment before calls old × ((disk base ≡ old base) × (disk diff ≡ old diff))

-- The merge was begun on files that told the first of these calls, and stopped at some moment; and so once for each of these
-- lives of the files, each time over what the last stop left. The files tell the last calls now.
abbrev pub Stopped : List ℕ → List ℕ → List ℕ → List FileCall → List (List FileCall) → List FileCall → Type 0
Stopped base diff file before [] now = before ≡ now
Stopped base diff file before (next ∷ lives) now =
    (calls : List FileCall) × IsMerge base diff file before calls
    × (Restarts base diff before calls next × Stopped base diff file next lives now)

-- A diff of the base's copy, whose merge may have been begun and stopped before, as often as may be, on files that tell these
-- calls now.
pub record WasBegun (base diff : List ℕ) (m : MemoryCopy) (d : DiffCopy) (file : List ℕ) (now : List FileCall) : Type 0 where
  pub are_bytes : IsBytes file
  pub is : IsDiffFile file d
  pub joins : Joins m d
  pub first : List FileCall
  pub lives : List (List FileCall)
  pub begins : Begins base diff m file first
  pub stopped : Stopped base diff file first lives now
