-- A file behind a gate at every moment of its calls.
use Rattle.std.specs.Prelude.{◌≡◌, ◌≢◌, ◌<◌, ◌≤◌, ◌⊎◌, ℕ, List, [], ◌∷◌, ◌++◌, length, Option, Some, None, slice_index}
use Rattle.vm_outside.specs.Calls.{FileCall}
use Rattle.vm_outside.specs.Crashes.{Disk, Images, LeftSince}

-- no such file, too short for a header of this size, or the gate isn't open
abbrev pub IsShut : ℕ → Option (List ℕ) → Type 0
IsShut header None = Unit {0}
IsShut header (Some text) = (length text < header) ⊎ (slice_index text 0 ≢ 1)

-- each of these writes is behind the gate
abbrev pub AreBehind : List (ℕ × List ℕ) → Type 0
AreBehind [] = Unit {0}
AreBehind (w ∷ writes) = (1 ≤ w.0) × AreBehind writes

-- what the file might have held before these calls
abbrev pub AsBefore : List FileCall → List ℕ → Disk → Type 0
AsBefore before name disk = (old : Disk) × Images before old × (disk name ≡ old name)

-- a crash at some moment of these calls left this disk: of a front of them, also before the first and after the last
abbrev pub LeftInside : List FileCall → List FileCall → Disk → Type 0
LeftInside before script disk =
    (done : List FileCall) × (rest : List FileCall) × (done ++ rest ≡ script) × LeftSince (Images before) done disk
