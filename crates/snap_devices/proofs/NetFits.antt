-- A network device in the fields of a file: what is kept of it fits, where each number of it has its width.
use Rattle.std.proofs.Common.{◌≡◌, ◌≤◌, ◌<◌, ◌^◌, nat_le, ℕ, true, refl, arith, List, length, length-drop, drop}
use Rattle.std.proofs.lemmas.Bool.{and_from, and_parts, le-leb, leb-true}
use Rattle.file_format.proofs.Fitting.{fits8, fits64, fits_bytes}
use Rattle.dev_core.specs.Pieces.{room, share}
use Rattle.rate_gate.specs.Gate.{Buckets}
use Rattle.rate_gate.specs.Small.{AreSmallLimits}
use Rattle.queue_device.specs.declared.device.QueueRounds.{QueueRounds}
use Rattle.queue_device.specs.declared.lanes.Which.{Which}
use Rattle.queue_device.specs.declared.lanes.Which.TheVariants.{First, Second, Third}
use Rattle.queue_device.specs.declared.phase.Work.{Work}
use Rattle.queue_device.specs.declared.phase.Work.TheVariants as work
use Rattle.queue_device.specs.Kept.{work_of}
use Rattle.queue_device.specs.Resuming.{AreShort}
use Rattle.queue_device.specs.Sizes.{IsNarrowPhase}
use Rattle.queue_device.proofs.KeptStays.{TestParts}
use Rattle.net_device.specs.declared.kind.Stage.{Stage}
use Rattle.net_device.specs.declared.kind.Stage.TheVariants as at
use Rattle.net_device.specs.Frames.{is_headed}
use Rattle.net_device.specs.Net as nets
use Rattle.net_device.specs.States.{is_state}
use Rattle.net_device.specs.Work.{IsSizedData, IsSmallText, IsSmallWork, Kept, is_at, is_work}
use Rattle.net_device.proofs.Keeping.{at_stage, has_clear, has_of, no_take, no_third, takes_of}
use Rattle.net_device.proofs.Stages.{test_of_stage}
use Rattle.snap_devices.specs.Limits.{limits}
use Rattle.snap_devices.specs.Nets.{stage as stage_format, kind, kind_fields, net, net_fields, text}
use Rattle.snap_devices.specs.Queues.{piece}
use Rattle.snap_devices.proofs.LimitsFits.{bucket_by}
use Rattle.snap_devices.proofs.PieceFits.{parts_fit}
use Rattle.snap_devices.proofs.RoundsFits.{facts, place_fits, rounds_fit}

text_fits : (bytes : List ℕ) → IsSmallText bytes → text.Fits bytes
unfolding text
text_fits bytes small =
    let most = small.0 in (
      fits_bytes bytes (omega (arith, most)),
      and_from (nat_le (length bytes) 1526) (is_headed bytes) (le-leb (length bytes) 1526 most) small.2,
    )

piece_fits : (bytes : List ℕ) → length bytes ≤ 64 → piece.Fits bytes
unfolding piece
piece_fits bytes most = (fits_bytes bytes (omega (arith, most)), le-leb (length bytes) 64 most)

pub limits_fit : (b : Buckets) → AreSmallLimits b → limits.Fits b
unfolding limits
limits_fit b small = (bucket_by b.bandwidth small.0, bucket_by b.ops small.1)

-- ---- what it is at

-- it has something to want, and its numbers fit
record StageFits (s : Stage) (bytes : List ℕ) : Type 0 where
  has : is_at s bytes ≡ true
  fits : stage_format.Fits s

rest_fits : (bytes : List ℕ) → StageFits at.Rest bytes
unfolding stage_format
rest_fits bytes = record { has = refl; fits = (fits8 0 (omega arith), refl) }

end_fits : (bytes : List ℕ) → StageFits at.End bytes
unfolding stage_format
end_fits bytes = record { has = refl; fits = (fits8 5 (omega arith), refl) }

module _ (pages : ℕ) (few : pages ≤ 2 ^ 20) where
  take_fits : (size index : ℕ) (bytes : List ℕ) → is_work work.Answer pages (at_stage (at.Take size index) bytes) ≡ true
      → StageFits (at.Take size index) bytes
  unfolding stage_format
  take_fits size index bytes is =
      let own = takes_of pages size index bytes is in
      let most = leb-true size 1514 (and_parts (nat_le 14 size) (nat_le size 1514) own.frame).1 in
      let more = own.more in
      record {
        has = test_of_stage (at.Take size index) bytes (most, own.more, own.long);
        fits = (fits8 1 (omega arith), (refl, (fits64 size (omega (arith, most)), fits64 index (omega (arith, most, more)))));
      }

  served_fits : (k : Which) (s : Stage) (bytes : List ℕ) → is_work (work.Serve k) pages (at_stage s bytes) ≡ true
      → IsSmallWork (at_stage s bytes) → StageFits s bytes
  unfolding stage_format
  served_fits First at.Rest bytes is small = absurd (cc)
  served_fits First (at.Take size index) bytes is small = absurd (cc)
  served_fits First (at.Receive from to) bytes is small =
      let own = has_of pages (share (drop from bytes) to) to is in
      let some = own.some in
      let most = small.1.0 in
      record {
        has = test_of_stage (at.Receive from to) bytes own.some;
        fits = (
          fits8 2 (omega arith),
          (refl, (fits64 from (omega (arith, some, length-drop from bytes, most)), parts_fit pages to few (own.inside, own.few))),
        );
      }
  served_fits First (at.Read skip from) bytes is small = absurd (cc)
  served_fits First (at.Send sent skip from) bytes is small = absurd (cc)
  served_fits First at.End bytes is small = absurd (cc)
  served_fits Second at.Rest bytes is small = absurd (cc)
  served_fits Second (at.Take size index) bytes is small = absurd (cc)
  served_fits Second (at.Receive from to) bytes is small = absurd (cc)
  served_fits Second (at.Read skip from) bytes is small =
      let own = has_clear pages (room from) from bytes is in
      record {
        has = test_of_stage (at.Read skip from) bytes own.some;
        fits = (fits8 3 (omega arith), (refl, (fits64 skip small.0, parts_fit pages from few (own.inside, own.few))));
      }
  served_fits Second (at.Send sent skip from) bytes is small =
      let own = has_clear pages (length sent) from bytes is in
      record {
        has = test_of_stage (at.Send sent skip from) bytes own.some;
        fits =
            (fits8 4 (omega arith), (refl, (piece_fits sent small.0.0, (fits64 skip small.0.2, parts_fit pages from few (own.inside, own.few)))));
      }
  served_fits Second at.End bytes is small = end_fits bytes
  served_fits Third s bytes is small = absurd (no_third pages s bytes is)

  rests_fit : (s : Stage) (bytes : List ℕ) → is_work work.Rest pages (at_stage s bytes) ≡ true → StageFits s bytes
  rests_fit at.Rest bytes is = rest_fits bytes
  rests_fit (at.Take size index) bytes is = absurd (cc)
  rests_fit (at.Receive from to) bytes is = absurd (cc)
  rests_fit (at.Read skip from) bytes is = absurd (cc)
  rests_fit (at.Send sent skip from) bytes is = absurd (cc)
  rests_fit at.End bytes is = absurd (cc)

  answers_fit : (s : Stage) (bytes : List ℕ) → is_work work.Answer pages (at_stage s bytes) ≡ true → StageFits s bytes
  answers_fit at.Rest bytes is = absurd (cc)
  answers_fit (at.Take size index) bytes is = take_fits size index bytes is
  answers_fit (at.Receive from to) bytes is = absurd (cc)
  answers_fit (at.Read skip from) bytes is = absurd (cc)
  answers_fit (at.Send sent skip from) bytes is = absurd (cc)
  answers_fit at.End bytes is = absurd (cc)

  stage_fits : (w : Work) (s : Stage) (bytes : List ℕ) → is_work w pages (at_stage s bytes) ≡ true → IsSmallWork (at_stage s bytes)
      → StageFits s bytes
  stage_fits work.Rest s bytes is small = rests_fit s bytes is
  stage_fits work.Answer s bytes is small = answers_fit s bytes is
  stage_fits (work.Take k) s bytes is small = absurd (no_take pages k s bytes is)
  stage_fits (work.Serve k) s bytes is small = served_fits k s bytes is small

-- ---- all of it

-- a network device of a guest of at most 2^20 pages, at a port whose number is a byte
module _ (n : QueueRounds Kept) (is : is_state n ≡ true) (few : n.rounds.pages ≤ 2 ^ 20) (port : n.rounds.port < 2 ^ 8)
    (short : AreShort true n.rounds) (narrow : IsNarrowPhase n.phase) (small : IsSmallWork n.kind.doing)
    (own : IsSizedData true n.kind.own) where
  parts : TestParts nets.net true is_work n.phase n.rounds n.kind.doing
  parts = facts nets.net true is_work n.phase n.rounds n.kind.doing is few port short

  pub net_fits : net.Fits n
  unfolding net net_fields kind kind_fields
  net_fits =
      let kept = stage_fits n.rounds.pages few (work_of n.phase) n.kind.doing.stage n.kind.doing.bytes parts.works small in
      let small_own = own refl in (
        (
          rounds_fit nets.net true is_work n.phase n.rounds n.kind.doing is few port short,
          (
            place_fits nets.net true is_work n.phase n.rounds n.kind.doing is few port short n.phase parts.place narrow,
            (
              (
                text_fits n.kind.own.text small_own.text,
                (
                  limits_fit n.kind.own.rx small_own.rx,
                  (limits_fit n.kind.own.tx small_own.tx, (kept.fits, text_fits n.kind.doing.bytes small.1)),
                ),
              ),
              kept.has,
            ),
          ),
        ),
        is,
      )
