-- What files hold that two machines have: the same, but for the lineages of the snapshots that both made.
use Rattle.std.specs.Prelude.{◌≡◌, ◌⊎◌, ℕ, List, length, map, Option, Some, None}
use Rattle.std.specs.FinMap.{get}
use Rattle.vm_types.specs.Saved.{Saved}
use Rattle.vm_types.specs.declared.identity.Identity.{Identity}
use Rattle.vm_outside.specs.Calls.{FileCall}
use Rattle.vm_outside.specs.Calls.FileCall.{Made, Making, Synced, Writing}
use Rattle.snap_diff.specs.Copies.{DiffCopy}
use Rattle.snap_state.specs.declared.copy.StateCopy.{StateCopy}
use Rattle.flat_snapshot.specs.Files.{diff_file, memory_file, state_file}
use Rattle.alike_runs.specs.Twins.{IsAmong, IsTwin, Twins}

-- the diff, since this snapshot and under this identity
abbrev pub diff_as : Identity → Identity → DiffCopy → DiffCopy
diff_as parent identity d = record d { parent = parent; identity = identity }

-- the files of twins, of one copy: their state files, the files of their memory, or those of their diffs, which are since one
-- snapshot, or since twins
pub data AreFiles (twins : List Twins) (t : Twins) (a b : List ℕ) : Type 0 where
  StateFiles : (copy : StateCopy) → a ≡ state_file t.first copy → b ≡ state_file t.second copy → AreFiles twins t a b
  MemoryFiles : (pages : ℕ) (bytes : List ℕ) → a ≡ memory_file t.first pages bytes → b ≡ memory_file t.second pages bytes
      → AreFiles twins t a b
  DiffFiles : (i j : Identity) (d : DiffCopy) → IsTwin twins i j → a ≡ diff_file (diff_as i t.first d)
      → b ≡ diff_file (diff_as j t.second d) → AreFiles twins t a b

-- the same bytes, or the files of twins
abbrev pub AlikeBytes : List Twins → List ℕ → List ℕ → Type 0
AlikeBytes twins a b = (a ≡ b) ⊎ ((t : Twins) × IsAmong t twins × AreFiles twins t a b)

-- under one name
abbrev pub AlikeFile : List Twins → Option (List ℕ) → Option (List ℕ) → Type 0
AlikeFile twins None None = Unit {0}
AlikeFile twins (Some a) (Some b) = AlikeBytes twins a b
AlikeFile twins a b = ⊥

-- under each name
abbrev pub AlikeFiles : List Twins → Saved → Saved → Type 0
AlikeFiles twins a b = (name : List ℕ) → AlikeFile twins (get a name) (get b name)

-- ---- calls on files

-- how many bytes are read behind a sync, if there is a file
abbrev pub size_of : Option (List ℕ) → Option ℕ
size_of None = None
size_of (Some bytes) = Some (length bytes)

-- a call without its bytes: what is done, on which file, at which place, and with how many bytes
pub data Shape : Type 0 where
  IsMaking : List ℕ → Shape
  IsMade : List ℕ → Shape
  IsWriting : List ℕ → ℕ → ℕ → Shape
  IsSynced : List ℕ → Option ℕ → Shape

abbrev pub shape_of : FileCall → Shape
shape_of (Making name) = IsMaking name
shape_of (Made name) = IsMade name
shape_of (Writing name at bytes) = IsWriting name at (length bytes)
shape_of (Synced name content) = IsSynced name (size_of content)

-- the same calls, but for their bytes: these are compared as what the files hold
abbrev pub AlikeCalls : List FileCall → List FileCall → Type 0
AlikeCalls calls others = map shape_of calls ≡ map shape_of others
