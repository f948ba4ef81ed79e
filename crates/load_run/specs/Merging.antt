-- The diffs of a run's rounds, merged in order into the memory file of its full snapshot.
use Rattle.std.specs.Prelude.{ℕ, ◌+◌, zero, suc, List, [], ◌∷◌, ◌++◌, codes, length, Option, Some, Result, Ok, Err}
use Rattle.std.specs.Fmt.{decimal}
use Rattle.std.specs.FinMap.{get, insert}
use Rattle.vm_types.specs.Saved.{Saved}
use Rattle.refusals.specs.declared.refusal.Refusal.{Refusal}
use Rattle.snap_diff.specs.Copies.{DiffCopy}
use Rattle.snap_diff.specs.Found.{diff_found}
use Rattle.gate_file.specs.Stages.{text_after}
use Rattle.snapshot_merge.specs.Calls.{stages}
use Rattle.snapshot_merge.specs.Plans.{Plan, planned_in}

-- the names of the memory file, and of the diff of the round of this number
abbrev pub memory_name : List ℕ
memory_name = codes "m0"

abbrev pub diff_name : ℕ → List ℕ
diff_name round = codes "d" ++ decimal round

-- What the files hold after a merge into the memory file, by what is to be done: what its stages make of it. A diff that is
-- refused changes nothing.
abbrev pub merged_by : Result Plan Refusal → Option (List ℕ) → Saved → Saved
merged_by (Ok plan) (Some memory) saved = insert saved memory_name (text_after (stages plan.merge plan.diff) memory)
merged_by plan memory saved = saved

abbrev pub with_diff : List ℕ → Saved → Saved
with_diff diff saved = merged_by (planned_in saved memory_name diff) (get saved memory_name) saved

-- after those of the first so many rounds, in order
abbrev pub merged : ℕ → Saved → Saved
merged zero saved = saved
merged (suc before) saved = with_diff (diff_name (before + 1)) (merged before saved)

-- how many pages a diff has, and what is none has none
abbrev pub pages_by : Result DiffCopy Refusal → ℕ
pages_by (Ok d) = length d.numbers
pages_by (Err why) = 0

-- those of the first so many rounds
abbrev pub pages_in : ℕ → Saved → ℕ
pages_in zero saved = 0
pages_in (suc before) saved = pages_in before saved + pages_by (diff_found (get saved (diff_name (before + 1))))

-- the files of the diffs of the first so many rounds
abbrev pub diffs_in : ℕ → Saved → List (Option (List ℕ))
diffs_in zero saved = []
diffs_in (suc before) saved = diffs_in before saved ++ get saved (diff_name (before + 1)) ∷ []
