-- What is left to do of the merge of a diff into a base, or why it isn't done.
use Rattle.std.specs.Prelude.{ℕ, suc, Bool, ◌==◌, ◌&&◌, not, if◌then◌else◌, List, [], ◌∷◌, Option, Some, None, Result, Ok, Err, slice_get}
use Rattle.refusals.specs.declared.refusal.Refusal.{Refusal}
use Rattle.refusals.specs.declared.refusal.Refusal.TheVariants as refusal
use Rattle.file_format.specs.Identities.{is_same}
use Rattle.snap_memory.specs.declared.slot.Slot.{Slot}
use Rattle.snap_memory.specs.declared.header.MemHeader.{MemHeader}
use Rattle.snap_memory.specs.Slots.{is_open}
use Rattle.snap_memory.specs.Headers.{identity_of}
use Rattle.snap_diff.specs.declared.header.DiffNames.{DiffNames}
use Rattle.snapshot_merge.specs.declared.merge.Merge.{Merge}
use Rattle.snapshot_merge.specs.declared.merge.Merge.TheVariants.{Begin, GoOn, Finish}

-- how many slots at the front are open: the next merge fills the one of this number
abbrev pub open_slots : List Slot → ℕ
open_slots [] = 0
open_slots (s ∷ others) = if is_open s then suc (open_slots others) else 0

-- Nothing is unfinished. The diff must be of what the base holds, and a slot must be left.
abbrev pub new_merge : MemHeader → DiffNames → Result Merge Refusal
new_merge base diff =
    if not (is_same diff.parent (identity_of base)) then Err refusal.ParentDiffers
    else (if open_slots base.slots == 100 then Err refusal.NoSlotLeft else Ok (Begin (open_slots base.slots)))

-- A merge into this slot is unfinished: it is gone on with where it is this diff's, and of what the base holds.
abbrev pub begun_merge : MemHeader → DiffNames → Slot → Result Merge Refusal
begun_merge base diff slot =
    if is_same slot.identity diff.identity && is_same diff.parent (identity_of base)
    then Ok (GoOn (open_slots base.slots)) else Err refusal.MergeUnfinished

-- All but the last step of a merge was done: it is finished where it was this diff's.
abbrev pub done_merge : MemHeader → DiffNames → Result Merge Refusal
done_merge base diff =
    if is_same (identity_of base) diff.identity then Ok Finish else Err refusal.MergeUnfinished

-- the next slot tells which of the two it is
abbrev pub unfinished_merge : MemHeader → DiffNames → Option Slot → Result Merge Refusal
unfinished_merge base diff None = done_merge base diff
unfinished_merge base diff (Some slot) =
    if slot.identity.number == 0 then done_merge base diff else begun_merge base diff slot

-- as many pages, and then by the merging byte
abbrev pub merge_of : MemHeader → DiffNames → Result Merge Refusal
merge_of base diff =
    if not (diff.pages == base.pages) then Err refusal.SizesDiffer
    else (if base.merging == 0 then new_merge base diff
    else unfinished_merge base diff (slice_get base.slots (open_slots base.slots)))

-- No merge is unfinished, and the base holds the diff's own snapshot: the diff was merged before. Its parent is another
-- identity than its own, so it is refused for that.
abbrev pub was_merged : MemHeader → DiffNames → Bool
was_merged base diff = (diff.pages == base.pages) && (base.merging == 0) && is_same (identity_of base) diff.identity
