-- What a stop inside the command leaves, by how it ended.
use Rattle.std.proofs.Common.{◌≡◌, ◌⊎◌, ℕ, List, Ok, Err, inl, inr, subst}
use Rattle.std.specs.FinMap.{get}
use Rattle.vm_outside.specs.Crashes.{Disk, Images}
use Rattle.vm_outside.specs.Known.{FilesKnown}
use Rattle.refusals.specs.declared.refusal.Refusal.TheVariants as refusal
use Rattle.gate_file.specs.Stages.{LeftMeanwhile}
use Rattle.snap_diff.specs.Copies.{DiffCopy, MemoryCopy}
use Rattle.snapshot_merge.specs.declared.error.RebaseError.TheVariants as RebaseError
use Rattle.snapshot_merge.specs.Stops.{IsMerged, StandsOn, WasBegun}
use Rattle.snapshot_merge.proofs.Meanwhile.{all_made, begun, nothing_made, over, over_before, part_made, refused}
use Rattle.rebase_cli.specs.declared.end.End.{End}
use Rattle.rebase_cli.specs.declared.end.End.TheVariants.{Done, Usage, Refused, FilesFailed, OutOfMemory}
use Rattle.rebase_cli.specs.Command.{EndsBy}
use Rattle.rebase_cli.specs.Words.{Names}

module _ (names : Names) (old new : FilesKnown) (image : Images old.calls (λ name. get old.saved name)) (file : List ℕ) (m : MemoryCopy) (d : DiffCopy)
    (was : WasBegun names.base names.diff m d file old.calls) where
  pub stands : (disk : Disk) (end : End) → EndsBy end names old new → LeftMeanwhile old.calls new.calls disk → StandsOn names.base names.diff m d file disk
  stands disk Done merges left = all_made names.base names.diff old new image file m d was disk merges left
  stands disk (Refused why) refuses left = refused names.base names.diff old new image file m d was disk why refuses left
  stands disk FilesFailed (inl same) left = nothing_made names.base names.diff old new image file m d was disk same left
  stands disk FilesFailed (inr merges) left = part_made names.base names.diff old new image file m d was disk merges left
  stands disk OutOfMemory same left = nothing_made names.base names.diff old new image file m d was disk same left
  stands disk Usage never left = absurd never

  pub merged : (end : End) → (end ≡ Done) ⊎ (end ≡ Refused refusal.ParentDiffers) → EndsBy end names old new → IsMerged names.base names.diff m d file new
  merged end (inl done) ends = over names.base names.diff old new image file m d was (subst (λ (e : End). EndsBy e names old new) done ends)
  merged end (inr again) ends = over_before names.base names.diff old new image file m d was (subst (λ (e : End). EndsBy e names old new) again ends)

  pub goes_on : (end : End) → EndsBy end names old new → WasBegun names.base names.diff m d file new.calls
  goes_on Done merges = begun names.base names.diff old new image file m d was {T = Unit {0}} (Ok tt) merges
  goes_on (Refused why) refuses = begun names.base names.diff old new image file m d was {T = Unit {0}} (Err (RebaseError.Refused why)) refuses
  goes_on FilesFailed failed = begun names.base names.diff old new image file m d was {T = Unit {0}} (Err RebaseError.Fault) failed
  goes_on OutOfMemory same = begun names.base names.diff old new image file m d was {T = Unit {0}} (Err RebaseError.OutOfMemory) same
  goes_on Usage never = absurd never
