-- A balloon in the fields of a file: what is kept of it fits, where each number of it has its width.
use Rattle.std.proofs.Common.{◌≡◌, ◌≤◌, ◌<◌, ◌^◌, ℕ, true, refl, arith, List, Option, Some, None}
use Rattle.file_format.specs.Kinds.{number64, optional}
use Rattle.file_format.proofs.Fitting.{every, fits8, fits16, fits32, fits64, fits_optional, fits_times}
use Rattle.queue_device.specs.declared.device.QueueRounds.{QueueRounds}
use Rattle.queue_device.specs.declared.lanes.Which.{Which}
use Rattle.queue_device.specs.declared.lanes.Which.TheVariants.{First, Second, Third}
use Rattle.queue_device.specs.declared.phase.Work.{Work}
use Rattle.queue_device.specs.declared.phase.Work.TheVariants as work
use Rattle.queue_device.specs.Kept.{work_of}
use Rattle.queue_device.specs.Resuming.{AreShort}
use Rattle.queue_device.specs.Sizes.{IsNarrowPhase}
use Rattle.queue_device.proofs.KeptStays.{TestParts}
use Rattle.balloon_device.specs.declared.kind.Stage.{Stage}
use Rattle.balloon_device.specs.declared.kind.Stage.TheVariants as at
use Rattle.balloon_device.specs.declared.statistics.Statistics.{Statistics}
use Rattle.balloon_device.specs.Balloon as balloons
use Rattle.balloon_device.specs.States.{is_state}
use Rattle.balloon_device.specs.Statistics.{known_tags}
use Rattle.balloon_device.specs.Work.{AreSmall, IsSizedData, IsSmallStage, IsSmallValue, Kept, is_stage, is_work}
use Rattle.balloon_device.proofs.Stages.{list_of, reads_of, test_of_stage, zeros_of}
use Rattle.snap_devices.specs.Balloons.{stage as stage_format, balloon, balloon_fields, kind, kind_fields, statistics}
use Rattle.snap_devices.specs.Places.{place}
use Rattle.snap_devices.specs.Rounds.{rounds}
use Rattle.snap_devices.proofs.PieceFits.{collect_fits}
use Rattle.snap_devices.proofs.RoundsFits.{facts, place_fits, rounds_fit}

-- ---- what it told, and what it is at in a chain

value_fits : (v : Option ℕ) → IsSmallValue v → (optional number64).Fits v
value_fits None small = fits_optional number64 None tt
value_fits (Some n) small = fits_optional number64 (Some n) (fits64 n small)

statistics_fit : (s : Statistics) → AreSmall s → statistics.Fits s
unfolding statistics
statistics_fit s small =
    fits_times (optional number64) known_tags s.values small.0
    (every IsSmallValue (optional number64).Fits s.values value_fits small.1)

-- what it is at has something to want, and its bytes and numbers fit
record StageFits (s : Stage) : Type 0 where
  has : is_stage s ≡ true
  fits : stage_format.Fits s

rest_fits : StageFits at.Rest
unfolding stage_format
rest_fits = record { has = refl; fits = (fits8 0 (omega arith), refl) }

module _ (pages : ℕ) (few : pages ≤ 2 ^ 20) where
  served_fits : (k : Which) (s : Stage) → is_work (work.Serve k) pages s ≡ true → IsSmallStage s → StageFits s
  unfolding stage_format
  served_fits First at.Rest is small = absurd (cc)
  served_fits First (at.List list n) is small =
      let own = list_of pages n list is in
      let same = own.0 in
      let v = own.1 in
      let short = v.short in
      record {
        has = test_of_stage (at.List list n) (v.short, v.space);
        fits =
            (fits8 1 (omega arith), (refl, (fits32 n (omega (arith, same, few)), collect_fits pages list few (v.inside, v.few) (omega (arith, short), small))));
      }
  served_fits First (at.Zeros list n left address) is small =
      let own = zeros_of pages n left address list is in
      let same = own.0 in
      let v = own.1 in
      let most = v.most in
      let high = v.high in
      let short = v.short in
      record {
        has = test_of_stage (at.Zeros list n left address) (v.some, omega (arith, high, few));
        fits = (
          fits8 2 (omega arith),
          (
            refl,
            (
              fits32 n (omega (arith, same, few)),
              (
                fits32 left (omega (arith, most)),
                (fits64 address (omega (arith, high, few)), collect_fits pages list few (v.inside, v.few) (omega (arith, short), small)),
              ),
            ),
          ),
        );
      }
  served_fits First (at.Tags from s) is small = absurd (cc)
  served_fits Second s is small = absurd (cc)
  served_fits Third at.Rest is small = absurd (cc)
  served_fits Third (at.List list n) is small = absurd (cc)
  served_fits Third (at.Zeros list n left address) is small = absurd (cc)
  served_fits Third (at.Tags from s) is small =
      let v = reads_of pages 10 from is in
      let short = v.short in
      record {
        has = test_of_stage (at.Tags from s) (v.short, v.space);
        fits =
            (fits8 3 (omega arith), (refl, (statistics_fit s small.1, collect_fits pages from few (v.inside, v.few) (omega (arith, short), small.0))));
      }

  rests_fit : (s : Stage) → is_work work.Rest pages s ≡ true → StageFits s
  rests_fit at.Rest is = rest_fits
  rests_fit (at.List list n) is = absurd (cc)
  rests_fit (at.Zeros list n left address) is = absurd (cc)
  rests_fit (at.Tags from s) is = absurd (cc)

  no_other : (s : Stage) → is_work work.Answer pages s ≡ true → StageFits s
  no_other at.Rest is = absurd (cc)
  no_other (at.List list n) is = absurd (cc)
  no_other (at.Zeros list n left address) is = absurd (cc)
  no_other (at.Tags from s) is = absurd (cc)

  no_take : (k : Which) (s : Stage) → is_work (work.Take k) pages s ≡ true → StageFits s
  no_take k at.Rest is = absurd (cc)
  no_take k (at.List list n) is = absurd (cc)
  no_take k (at.Zeros list n left address) is = absurd (cc)
  no_take k (at.Tags from s) is = absurd (cc)

  stage_fits : (w : Work) (s : Stage) → is_work w pages s ≡ true → IsSmallStage s → StageFits s
  stage_fits work.Rest s is small = rests_fit s is
  stage_fits work.Answer s is small = no_other s is
  stage_fits (work.Take k) s is small = no_take k s is
  stage_fits (work.Serve k) s is small = served_fits k s is small

-- ---- all of it

-- a balloon of a guest of at most 2^20 pages, at a port whose number is a byte
module _ (b : QueueRounds Kept) (is : is_state b ≡ true) (few : b.rounds.pages ≤ 2 ^ 20) (port : b.rounds.port < 2 ^ 8)
    (short : AreShort true b.rounds) (narrow : IsNarrowPhase b.phase) (small : IsSmallStage b.kind.stage)
    (own : IsSizedData true b.kind.own) where
  parts : TestParts balloons.balloon true is_work b.phase b.rounds b.kind.stage
  parts = facts balloons.balloon true is_work b.phase b.rounds b.kind.stage is few port short

  pub balloon_fits : balloon.Fits b
  unfolding balloon balloon_fields kind kind_fields
  balloon_fits =
      let kept = stage_fits b.rounds.pages few (work_of b.phase) b.kind.stage parts.works small in
      let small_own = own refl in (
        (
          rounds_fit balloons.balloon true is_work b.phase b.rounds b.kind.stage is few port short,
          (
            place_fits balloons.balloon true is_work b.phase b.rounds b.kind.stage is few port short b.phase parts.place narrow,
            (
              (
                fits16 b.kind.own.interval small_own.interval,
                (fits64 b.kind.own.last small_own.last, (statistics_fit b.kind.own.statistics small_own.statistics, kept.fits)),
              ),
              kept.has,
            ),
          ),
        ),
        is,
      )
