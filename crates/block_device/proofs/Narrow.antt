-- What a block device writes are bytes, where each reply was small.
use Rattle.std.proofs.Common.{◌≡◌, ℕ, true, refl, List, []}
use Rattle.std.proofs.lemmas.List.Elements.{All-cons, All-nil, All-take}
use Rattle.le_fields.specs.Fields.{IsByte}
use Rattle.vq_split.specs.declared.queue.Part.{Part}
use Rattle.dev_core.specs.declared.collect.Collect.{Collect}
use Rattle.dev_core.specs.Pieces.{share}
use Rattle.queue_device.specs.declared.phase.Work.{Work}
use Rattle.queue_device.specs.Sizes.{IsSmallWrite}
use Rattle.block_device.specs.declared.stage.ServiceStage.{ServiceStage}
use Rattle.block_device.specs.declared.stage.ServiceStage.TheVariants as stage
use Rattle.block_device.specs.declared.work.BlockStage.{BlockStage}
use Rattle.block_device.specs.declared.work.BlockStage.TheVariants as at
use Rattle.block_device.specs.Serving.{serving_op}
use Rattle.block_device.specs.States.{is_sized_work}
use Rattle.block_device.specs.Working.{IsHeld, IsSmallAt, IsSmallStage, SizedWork, op_at, sized_hand}

serving_small : (s : ServiceStage) (from : Collect) (to : List Part) (place : ℕ) → IsHeld from.held → IsSmallStage s
    → IsSmallWrite (serving_op s from to place)
serving_small (stage.Read sector unit more) from to place held small = tt
serving_small (stage.Put sector unit more) from to place held small = All-take IsByte (share from.held to) from.held held.1
serving_small stage.PutId from to place held small = All-take IsByte (share from.held to) from.held held.1
serving_small (stage.Gather sector part more) from to place held small = tt
serving_small (stage.Disk sector part more) from to place held small = tt
serving_small stage.Flush from to place held small = tt
serving_small (stage.Status status used) from to place held small = All-cons IsByte status [] small.0 (All-nil IsByte)

at_small : (s : BlockStage) (from : Collect) (to : List Part) → IsHeld from.held → IsSmallAt s → IsSmallWrite (op_at s from to)
at_small at.Rest from to held small = tt
at_small at.Header from to held small = tt
at_small (at.Serve place s) from to held small = serving_small s from to place held small

pub acts_small : (pages : ℕ) (w : Work) (g : SizedWork true) → is_sized_work w pages g ≡ true → IsSmallWrite (sized_hand true g).op
acts_small pages w g is =
    let small = g.small refl in
    at_small g.work.stage g.work.from g.work.to small.held small.stage
