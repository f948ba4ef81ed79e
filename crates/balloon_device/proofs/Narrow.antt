-- What a balloon writes are bytes, and another interval leaves its data small.
use Rattle.std.proofs.Common.{◌<◌, ◌^◌, ℕ, true, arith}
use Rattle.std.proofs.lemmas.List.Elements.{All-replicate}
use Rattle.le_fields.specs.Fields.{IsByte}
use Rattle.queue_device.specs.Sizes.{IsSmallWrite}
use Rattle.balloon_device.specs.declared.kind.BalloonChange.TheVariants.{Interval}
use Rattle.balloon_device.specs.declared.kind.Stage.{Stage}
use Rattle.balloon_device.specs.declared.kind.Stage.TheVariants as stage
use Rattle.balloon_device.specs.Balloon.{Balloon, changed}
use Rattle.balloon_device.specs.Work.{IsSizedData, op_of}

pub acts_small : (g : Stage) → IsSmallWrite (op_of g)
acts_small stage.Rest = tt
acts_small (stage.List list pages) = tt
acts_small (stage.Zeros list pages left at) = All-replicate IsByte 64 0 (omega arith)
acts_small (stage.Tags from s) = tt

-- another interval leaves its data so
pub interval_small : (seconds : ℕ) (e : Balloon) → seconds < 2 ^ 16 → IsSizedData true e → IsSizedData true (changed (Interval seconds) e)
interval_small seconds e small fine =
    λ is. let was = fine is in record { interval = small; last = was.last; statistics = was.statistics }
