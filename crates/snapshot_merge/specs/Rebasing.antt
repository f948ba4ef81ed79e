-- What a rebase answers, and what it leaves of files that tell what they hold.
use Rattle.std.specs.Prelude.{◌≡◌, ◌⊎◌, ℕ, if◌then◌else◌, List, [], ◌∷◌, ◌++◌, Some, Result, Ok, Err}
use Rattle.std.specs.FinMap.{get}
use Rattle.vm_types.specs.Causes.{Rose}
use Rattle.vm_types.specs.Saved.{Saved}
use Rattle.refusals.specs.declared.refusal.Refusal.{Refusal}
use Rattle.vm_outside.specs.Calls.{FileCall}
use Rattle.vm_outside.specs.Calls.FileCall.{Synced}
use Rattle.vm_outside.specs.Filing.{SameFiles}
use Rattle.vm_outside.specs.Known.{FilesKnown}
use Rattle.gate_file.specs.Runs.{RunsAll, RunsPart}
use Rattle.snapshot_merge.specs.declared.error.RebaseError.{RebaseError}
use Rattle.snapshot_merge.specs.declared.error.RebaseError.TheVariants.{Refused, Fault, OutOfMemory}
use Rattle.gate_file.specs.Stages.{calls_of, text_after}
use Rattle.snapshot_merge.specs.Calls.{stages}
use Rattle.snapshot_merge.specs.Plans.{Plan, both_in, merged_by, planned_in}

-- all that is left of the merge was done: the base holds what its stages make of it, and nothing else changed
pub record Merges (base diff : List ℕ) (old new : FilesKnown) : Type 0 where
  pub plan : Plan
  pub text : List ℕ
  pub planned : planned_in old.saved base diff ≡ Ok plan
  pub there : get old.saved base ≡ Some text
  pub runs : RunsAll base (calls_of base (stages plan.merge plan.diff) text) (text_after (stages plan.merge plan.diff) text) old new

-- a call of it failed: the first were done, and every name but the base's holds what it held
pub record MergesPart (base diff : List ℕ) (old new : FilesKnown) : Type 0 where
  pub plan : Plan
  pub text : List ℕ
  pub planned : planned_in old.saved base diff ≡ Ok plan
  pub there : get old.saved base ≡ Some text
  pub runs : RunsPart base (calls_of base (stages plan.merge plan.diff) text) old new

-- The calls of a refusal: none. But where the diff was merged before, the base is synced, since that merge may have been stopped
-- before its last sync.
abbrev pub refused_calls : Saved → List ℕ → List ℕ → List FileCall
refused_calls saved base diff = if merged_by (both_in saved base diff) then Synced base (get saved base) ∷ [] else []

-- it is the first refusal that fits, and no file is changed
pub record Refuses (base diff : List ℕ) (why : Refusal) (old new : FilesKnown) : Type 0 where
  pub planned : planned_in old.saved base diff ≡ Err why
  pub saved : new.saved ≡ old.saved
  pub calls : new.calls ≡ old.calls ++ refused_calls old.saved base diff

-- By what it answers. A call that failed may have been one that reads, or a refusal's sync.
abbrev pub Rebases : {T : Type 0} → List ℕ → List ℕ → Result T RebaseError → FilesKnown → FilesKnown → Type 0
Rebases base diff (Ok done) old new = Merges base diff old new
Rebases base diff (Err (Refused why)) old new = Refuses base diff why old new
Rebases base diff (Err Fault) old new = SameFiles old new ⊎ MergesPart base diff old new
Rebases base diff (Err OutOfMemory) old new = SameFiles old new

-- a failure has a fault, and what did not come to one has none
abbrev pub RebaseCause : {T : Type 0} → Result T RebaseError → ℕ → ℕ → Type 0
RebaseCause (Ok it) before now = now ≡ before
RebaseCause (Err Fault) before now = Rose before now
RebaseCause (Err why) before now = now ≡ before
