-- What is read of a balloon has its widths.
use Rattle.std.proofs.Common.{ℕ, List, Option, Some, None}
use Rattle.std.specs.List.{All}
use Rattle.le_fields.specs.Fields.{IsByte}
use Rattle.file_format.specs.Kinds.{number64, optional}
use Rattle.file_format.proofs.Fitting.{every, of16, of64, of_optional, of_times}
use Rattle.queue_device.specs.declared.device.QueueRounds.{QueueRounds}
use Rattle.balloon_device.specs.declared.kind.Stage.{Stage}
use Rattle.balloon_device.specs.declared.kind.Stage.TheVariants as at
use Rattle.balloon_device.specs.declared.statistics.Statistics.{Statistics}
use Rattle.balloon_device.specs.Statistics.{known_tags}
use Rattle.balloon_device.specs.Work.{AreSmall, IsSmallStage, IsSmallValue, Kept}
use Rattle.guest_devices.specs.declared.device.Device.TheVariants as kept
use Rattle.guest_devices.specs.Narrow.{IsNarrowKept}
use Rattle.snap_devices.specs.Balloons.{stage as stage_format, balloon, balloon_fields, kind, kind_fields, statistics}
use Rattle.snap_devices.specs.Devices.{device}
use Rattle.snap_devices.specs.Rounds.{rounds}
use Rattle.snap_devices.proofs.Narrow.{HoldsPhase}
use Rattle.snap_devices.proofs.RoundsNarrow.{AreAllHeld, place_narrow, rounds_narrow}

-- ---- what it told, and what it is at in a chain

value_of : (v : Option ℕ) → (optional number64).Fits v → IsSmallValue v
value_of None own = tt
value_of (Some n) own = of64 n (of_optional number64 n own)

statistics_of : (s : Statistics) → statistics.Fits s → AreSmall s
unfolding statistics
statistics_of s own =
    let values = of_times (optional number64) known_tags s.values own in
    (values.0, every (optional number64).Fits IsSmallValue s.values value_of values.1)

-- the bytes that it holds
abbrev pub HoldsStage : Stage → Type 0
HoldsStage at.Rest = Unit {0}
HoldsStage (at.List list pages) = All IsByte list.held
HoldsStage (at.Zeros list pages left address) = All IsByte list.held
HoldsStage (at.Tags from s) = All IsByte from.held

stage_narrow : (s : Stage) → stage_format.Fits s → HoldsStage s → IsSmallStage s
unfolding stage_format
stage_narrow at.Rest own bytes = tt
stage_narrow (at.List list pages) own bytes = bytes
stage_narrow (at.Zeros list pages left address) own bytes = bytes
stage_narrow (at.Tags from s) own bytes = (bytes, statistics_of s own.1.1.0)

-- ---- all of it

abbrev pub HoldsBalloon : QueueRounds Kept → Type 0
HoldsBalloon b = HoldsStage b.kind.stage × AreAllHeld b.rounds × HoldsPhase b.phase

balloon_narrow : (b : QueueRounds Kept) → balloon.Fits b → HoldsBalloon b → IsNarrowKept (kept.Balloon b)
unfolding balloon balloon_fields kind kind_fields
balloon_narrow b own bytes = (
  rounds_narrow b.rounds own.0.0 bytes.1,
  place_narrow b.phase own.0.1.0 bytes.2,
  stage_narrow b.kind.stage own.0.1.1.0.1.1.1 bytes.0,
  λ yes. record {
    interval = of16 b.kind.own.interval own.0.1.1.0.0;
    last = of64 b.kind.own.last own.0.1.1.0.1.0;
    statistics = statistics_of b.kind.own.statistics own.0.1.1.0.1.1.0;
  },
)

pub balloon_is : (b : QueueRounds Kept) → device.Fits (kept.Balloon b) → HoldsBalloon b → IsNarrowKept (kept.Balloon b)
unfolding device
balloon_is b own bytes = balloon_narrow b own.1.1 bytes
