-- What the command owes for its words.
use Rattle.std.specs.Prelude.{◌≡◌, ◌⊎◌, ℕ, List, [], ◌++◌}
use Rattle.vm_types.specs.Causes.{Rose}
use Rattle.vm_outside.specs.Known.{FilesKnown, SinkKnown}
use Rattle.diff_convert.specs.Converting as converting
use Rattle.snapshot_merge.specs.Rebasing.{Merges, MergesPart, Refuses}
use Rattle.vm_outside.specs.Filing.{SameFiles}
use Rattle.rebase_cli.specs.declared.end.End.{End}
use Rattle.rebase_cli.specs.declared.end.End.TheVariants.{Done, Usage, Refused, FilesFailed, OutOfMemory}
use Rattle.rebase_cli.specs.Words.{Names, Conversion}

-- the files of a merge by how it ended: all of it was done; refused by the first rule that fits; a call on them failed
abbrev pub EndsBy : End → Names → FilesKnown → FilesKnown → Type 0
EndsBy Done names old new = Merges names.base names.diff old new
EndsBy (Refused why) names old new = Refuses names.base names.diff why old new
EndsBy FilesFailed names old new = SameFiles old new ⊎ MergesPart names.base names.diff old new
EndsBy OutOfMemory names old new = SameFiles old new
EndsBy Usage names old new = ⊥

-- and those of a convert
abbrev pub ConvertsBy : End → Conversion → FilesKnown → FilesKnown → Type 0
ConvertsBy Done conversion old new = converting.Converts conversion.from conversion.to old new
ConvertsBy (Refused why) conversion old new = converting.Refuses conversion.from conversion.to why old new
ConvertsBy FilesFailed conversion old new = SameFiles old new ⊎ converting.ConvertsPart conversion.from conversion.to old new
ConvertsBy OutOfMemory conversion old new = SameFiles old new
ConvertsBy Usage conversion old new = ⊥

-- the files' count rose exactly where their fault is named
abbrev pub EndCause : End → ℕ → ℕ → Type 0
EndCause FilesFailed before now = Rose before now
EndCause end before now = now ≡ before

-- the sink took the line, all of it and no fault was counted, or its count rose and a front of it was taken
pub record TookLine (line : List ℕ) (before now : SinkKnown) : Type 0 where
  pub front : List ℕ
  pub rest : List ℕ
  pub took : now.taken ≡ before.taken ++ front
  pub parts : front ++ rest ≡ line
  pub cause : ((rest ≡ []) × (now.health.faults ≡ before.health.faults)) ⊎ Rose before.health.faults now.health.faults
