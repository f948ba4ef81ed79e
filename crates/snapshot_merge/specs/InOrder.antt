-- Diffs that are merged into one base, one after another.
use Rattle.std.specs.Prelude.{◌≡◌, ℕ, List, [], ◌∷◌, Some, Ok}
use Rattle.snap_diff.specs.Copies.{DiffCopy}
use Rattle.snap_diff.specs.Diffs.{IsDiffFile}
use Rattle.gate_file.specs.Stages.{text_after}
use Rattle.snapshot_merge.specs.Calls.{stages}
use Rattle.snapshot_merge.specs.Plans.{Plan, planned}

-- each of these files is that of a diff
abbrev pub AreDiffFiles : List (List ℕ) → List DiffCopy → Type 0
AreDiffFiles [] [] = Unit {0}
AreDiffFiles (file ∷ files) (d ∷ diffs) = IsDiffFile file d × AreDiffFiles files diffs
AreDiffFiles files diffs = ⊥

-- none of these files is refused, and each merge leaves the base of the next; the last leaves this text
abbrev pub MergeAll : List ℕ → List (List ℕ) → List ℕ → Type 0
MergeAll base [] last = base ≡ last
MergeAll base (file ∷ files) last =
    (plan : Plan) × (planned (Some base) (Some file) ≡ Ok plan)
    × MergeAll (text_after (stages plan.merge plan.diff) base) files last
