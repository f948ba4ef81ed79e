-- What an entropy device writes are bytes where each reply was small.
use Rattle.std.proofs.lemmas.List.Elements.{All-take}
use Rattle.le_fields.specs.Fields.{IsByte}
use Rattle.dev_core.specs.Pieces.{share}
use Rattle.queue_device.specs.Sizes.{IsSmallWrite}
use Rattle.entropy_device.specs.declared.kind.Stage.{Stage}
use Rattle.entropy_device.specs.declared.kind.Stage.TheVariants as stage
use Rattle.entropy_device.specs.Work.{IsSmallStage, op_of}

pub acts_small : (s : Stage) → IsSmallStage s → IsSmallWrite (op_of s)
acts_small stage.Rest small = tt
acts_small (stage.Draw len index to) small = tt
acts_small (stage.Write len index spill) small = All-take IsByte (share spill.held spill.to) spill.held small
