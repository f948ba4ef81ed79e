-- What a crash may leave of files, at each moment of the calls on them.
use Rattle.std.specs.Prelude.{◌≡◌, ◌≢◌, ◌<◌, ◌≤◌, ◌⊎◌, ℕ, ◌+◌, max, List, [], ◌∷◌, length, slice_index}
use Rattle.std.specs.Prelude.{Option, Some, None}
use Rattle.vm_outside.specs.Calls.{FileCall}
use Rattle.vm_outside.specs.Calls.FileCall.{Making, Made, Writing, Synced}

abbrev pub file_of : FileCall → List ℕ
file_of (Making name) = name
file_of (Made name) = name
file_of (Writing name at bytes) = name
file_of (Synced name now) = name

-- what each name holds, where there is a file
abbrev pub Disk : Type 0
Disk = List ℕ → Option (List ℕ)

-- each below 256
abbrev pub IsBytes : List ℕ → Type 0
IsBytes given = (i : ℕ) → slice_index given i < 256

-- After a write of these bytes at an offset, and before a sync: any bytes in their range and past the old end, and past
-- the old end some may be cut off. Other bytes stay, and the file is no longer than its old end or the range's.
pub record Torn (at : ℕ) (bytes old new : List ℕ) : Type 0 where
  pub no_shorter : length old ≤ length new
  pub no_longer : length new ≤ max (length old) (at + length bytes)
  pub stays : (k : ℕ) → k < length old → (k < at) ⊎ (at + length bytes ≤ k) → slice_index new k ≡ slice_index old k
  pub are_bytes : IsBytes bytes → IsBytes old → IsBytes new

abbrev pub TornFile : ℕ → List ℕ → Option (List ℕ) → Option (List ℕ) → Type 0
TornFile at bytes (Some old) (Some new) = Torn at bytes old new
TornFile at bytes None None = Unit {0}
TornFile at bytes old new = ⊥

-- what a crash may leave of the file of a call, from what it might have left before
abbrev pub Leaves : FileCall → Option (List ℕ) → Option (List ℕ) → Type 0
Leaves (Making name) old new = (new ≡ old) ⊎ (new ≡ None) ⊎ (new ≡ Some [])
Leaves (Made name) old new = new ≡ Some []
Leaves (Writing name at bytes) old new = TornFile at bytes old new
Leaves (Synced name now) old new = new ≡ now

-- one call more: its file by that, and every other file as it might have been
pub record LeftBy (call : FileCall) (old new : Disk) : Type 0 where
  pub file : Leaves call (old (file_of call)) (new (file_of call))
  pub others : (name : List ℕ) → name ≢ file_of call → new name ≡ old name

-- what a crash may leave after calls, from what it might have left before them
abbrev pub Left : (Disk → Type 0) → List FileCall → Disk → Type 0
Left before [] disk = before disk
Left before (call ∷ calls) disk = Left (λ d. (old : Disk) × before old × LeftBy call old d) calls disk

-- the same at each moment: before the calls, after each of them, and so also inside a call
abbrev pub LeftSince : (Disk → Type 0) → List FileCall → Disk → Type 0
LeftSince before [] disk = before disk
LeftSince before (call ∷ calls) disk =
    before disk ⊎ LeftSince (λ d. (old : Disk) × before old × LeftBy call old d) calls disk

-- no file, as all begins
abbrev pub NoFile : Disk → Type 0
NoFile disk = (name : List ℕ) → disk name ≡ None

-- what a crash may leave after all calls so far
abbrev pub Images : List FileCall → Disk → Type 0
Images calls disk = Left NoFile calls disk
