-- Calls of the merge command that were done, one after another, into one base.
use Rattle.std.specs.Prelude.{◌≡◌, ℕ, List, [], ◌∷◌, Option, Some}
use Rattle.std.specs.FinMap.{get}
use Rattle.vm_outside.specs.Known.{FilesKnown}
use Rattle.rebase_cli.specs.declared.end.End.TheVariants.{Done}
use Rattle.rebase_cli.specs.Command.{EndsBy}

-- A call that ended with Done, with this file under the name of its diff. It found this under the name of the base, and left
-- that.
pub record MergeCall (base file : List ℕ) (now left : Option (List ℕ)) : Type 0 where
  pub diff : List ℕ
  pub old : FilesKnown
  pub new : FilesKnown
  pub finds : get old.saved base ≡ now
  pub has : get old.saved diff ≡ Some file
  pub ends : EndsBy Done (record { base = base; diff = diff }) old new
  pub leaves : get new.saved base ≡ left

-- One for each of these files, in order, and each finds the base as the one before left it: between two of them others may
-- change any other file. The first finds this, and the last leaves that.
abbrev pub MergeCalls : List ℕ → List (List ℕ) → Option (List ℕ) → Option (List ℕ) → Type 0
MergeCalls base [] now left = now ≡ left
MergeCalls base (file ∷ files) now left = (mid : Option (List ℕ)) × MergeCall base file now mid × MergeCalls base files mid left
