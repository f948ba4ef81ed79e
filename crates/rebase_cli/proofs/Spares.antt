-- What a stop inside a convert leaves, by how it ended.
use Rattle.std.proofs.Common.{◌≡◌, ◌⊎◌, Some, Ok, Err}
use Rattle.vm_outside.specs.Crashes.{Disk}
use Rattle.vm_outside.specs.Known.{FilesKnown}
use Rattle.gate_file.specs.Moments.{AsBefore, IsShut}
use Rattle.gate_file.specs.Stages.{LeftMeanwhile}
use Rattle.snap_diff.specs.Copies.{DiffCopy}
use Rattle.snapshot_merge.specs.declared.error.RebaseError.TheVariants as RebaseError
use Rattle.diff_convert.specs.Converting.{file_of, found_in}
use Rattle.diff_convert.proofs.Leaving.{crash_by}
use Rattle.rebase_cli.specs.declared.end.End.{End}
use Rattle.rebase_cli.specs.declared.end.End.TheVariants.{Done, Usage, Refused, FilesFailed, OutOfMemory}
use Rattle.rebase_cli.specs.Command.{ConvertsBy}
use Rattle.rebase_cli.specs.Words.{Conversion}

pub spares : (conversion : Conversion) (old new : FilesKnown) (disk : Disk) (end : End) → ConvertsBy end conversion old new → LeftMeanwhile old.calls new.calls disk
    → AsBefore old.calls conversion.to disk ⊎ IsShut 64 (disk conversion.to)
    ⊎ ((d : DiffCopy) × (found_in old.saved conversion.from conversion.to ≡ Ok d) × (disk conversion.to ≡ Some (file_of d)))
spares conversion old new disk Done all left = crash_by conversion.from conversion.to (Ok tt) old new disk all left
spares conversion old new disk (Refused why) refuses left = crash_by conversion.from conversion.to (Err (RebaseError.Refused why)) old new disk refuses left
spares conversion old new disk FilesFailed failed left = crash_by conversion.from conversion.to (Err RebaseError.Fault) old new disk failed left
spares conversion old new disk OutOfMemory same left = crash_by conversion.from conversion.to (Err RebaseError.OutOfMemory) old new disk same left
spares conversion old new disk Usage never left = absurd never
