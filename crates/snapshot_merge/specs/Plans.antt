-- What a rebase is to do by what the two files hold, or the first refusal that fits.
use Rattle.std.specs.Prelude.{ℕ, Bool, false, List, Option, Result, Ok, Err}
use Rattle.std.specs.FinMap.{get}
use Rattle.vm_types.specs.Saved.{Saved}
use Rattle.refusals.specs.declared.refusal.Refusal.{Refusal}
use Rattle.snap_memory.specs.declared.header.MemHeader.{MemHeader}
use Rattle.snap_diff.specs.Copies.{DiffCopy}
use Rattle.snap_diff.specs.Headers.{names_of}
use Rattle.snap_diff.specs.Found.{diff_found}
use Rattle.snapshot_merge.specs.declared.merge.Merge.{Merge}
use Rattle.snapshot_merge.specs.Bases.{base_found}
use Rattle.snapshot_merge.specs.Merges.{merge_of, was_merged}

-- a diff, and what is left to do of its merge
pub record Plan : Type 0 where
  pub diff : DiffCopy
  pub merge : Merge

abbrev pub plan_with : DiffCopy → Result Merge Refusal → Result Plan Refusal
plan_with d (Err why) = Err why
plan_with d (Ok merge) = Ok (record { diff = d; merge = merge })

-- what both files are found as: the base is judged first, and then the diff
abbrev pub both_by : Result MemHeader Refusal → Result DiffCopy Refusal → Result (MemHeader × DiffCopy) Refusal
both_by (Err why) diff = Err why
both_by (Ok base) (Err why) = Err why
both_by (Ok base) (Ok d) = Ok (base, d)

abbrev pub plan_of : Result (MemHeader × DiffCopy) Refusal → Result Plan Refusal
plan_of (Err why) = Err why
plan_of (Ok both) = plan_with both.1 (merge_of both.0 (names_of both.1))

-- and then both together
abbrev pub plan_by : Result MemHeader Refusal → Result DiffCopy Refusal → Result Plan Refusal
plan_by base diff = plan_of (both_by base diff)

abbrev pub planned : Option (List ℕ) → Option (List ℕ) → Result Plan Refusal
planned base diff = plan_by (base_found base) (diff_found diff)

-- whether the diff was merged before
abbrev pub merged_by : Result (MemHeader × DiffCopy) Refusal → Bool
merged_by (Err why) = false
merged_by (Ok both) = was_merged both.0 (names_of both.1)

-- by the names of the two files
abbrev pub both_in : Saved → List ℕ → List ℕ → Result (MemHeader × DiffCopy) Refusal
both_in saved base diff = both_by (base_found (get saved base)) (diff_found (get saved diff))

abbrev pub planned_in : Saved → List ℕ → List ℕ → Result Plan Refusal
planned_in saved base diff = planned (get saved base) (get saved diff)
