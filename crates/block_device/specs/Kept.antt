-- What a block device may keep in a chain, as a test.
use Rattle.std.specs.Prelude.{ℕ, ◌+◌, ◌/◌, ◌^◌, ◌==◌, nat_le, nat_lt, Bool, true, false, ◌&&◌, if◌then◌else◌, Option, Some, None, List, length}
use Rattle.vq_split.specs.declared.queue.Part.{Part}
use Rattle.vq_split.specs.Chain.{is_inside}
use Rattle.vq_split.specs.Kept.{are_inside}
use Rattle.dev_core.specs.declared.collect.Collect.{Collect}
use Rattle.dev_core.specs.Pieces.{room, share}
use Rattle.queue_device.specs.declared.phase.Work.{Work}
use Rattle.queue_device.specs.declared.phase.Work.TheVariants as work
use Rattle.block_device.specs.declared.stage.ServiceStage.{ServiceStage}
use Rattle.block_device.specs.declared.stage.ServiceStage.TheVariants as stage
use Rattle.block_device.specs.declared.work.BlockStage.{BlockStage}
use Rattle.block_device.specs.declared.work.BlockStage.TheVariants as at
use Rattle.block_device.specs.Working.{Working}

-- a range of sectors that was found inside the disk, by its units
abbrev pub is_within : ℕ → ℕ → ℕ → Bool
is_within sector unit more = nat_lt (unit + more) (2 ^ 50) && nat_lt (sector + (unit + more) / 8) (2 ^ 64)

-- no byte is held, and no part is left to be read
abbrev pub is_nothing : Collect → Bool
is_nothing from = (length from.from == 0) && (length from.held == 0)

abbrev pub is_clear : Collect → List Part → Bool
is_clear from to = is_nothing from && (length to == 0)

-- a stage has something to want, and what it doesn't need is cleared
abbrev pub is_stage : ServiceStage → Collect → List Part → Bool
is_stage (stage.Read sector unit more) from to = is_within sector unit more && is_nothing from && nat_lt unit (2 ^ 26)
is_stage (stage.Put sector unit more) from to =
    is_within sector unit more && (length from.from == 0) && nat_lt 0 (share from.held to) && nat_lt unit (2 ^ 26)
is_stage stage.PutId from to = (length from.from == 0) && nat_lt 0 (share from.held to)
is_stage (stage.Gather sector part more) from to =
    is_within sector part more && (length to == 0) && nat_lt (length from.held) 64 && nat_lt 0 (room from.from)
    && nat_lt part 8
is_stage (stage.Disk sector part more) from to = is_within sector part more && (length to == 0) && nat_lt part 8
is_stage stage.Flush from to = is_clear from to
is_stage (stage.Status status used) from to = is_clear from to

-- what it keeps fits what it is at
abbrev pub is_at : BlockStage → Collect → List Part → Bool
is_at at.Rest from to = is_clear from to
is_at at.Header from to = nat_lt (length from.held) 16 && nat_lt 0 (room from.from) && nat_lt 0 (length to)
is_at (at.Serve status stage) from to = is_stage stage from to

-- and so do its rounds
abbrev pub is_of : Work → BlockStage → Bool
is_of work.Answer stage = false
is_of work.Rest at.Rest = true
is_of (work.Take k) at.Header = true
is_of (work.Serve k) (at.Serve status stage) = true
is_of w stage = false

-- the work that keeps these, if there may be such a one
abbrev pub working_from : BlockStage → Collect → List Part → Option Working
working_from stage from to = if is_at stage from to then Some (record { stage = stage; from = from; to = to }) else None

-- the status goes to a place inside RAM
abbrev pub has_place : ℕ → BlockStage → Bool
has_place pages at.Rest = true
has_place pages at.Header = true
has_place pages (at.Serve status stage) = is_inside pages status 1

-- parts inside RAM, at most 256 of them
abbrev pub are_placed : ℕ → List Part → Bool
are_placed pages parts = are_inside pages parts && nat_le (length parts) 256

abbrev pub is_work : Work → ℕ → Working → Bool
is_work w pages b =
    is_of w b.stage && is_at b.stage b.from b.to && has_place pages b.stage && are_placed pages b.from.from
    && are_placed pages b.to
