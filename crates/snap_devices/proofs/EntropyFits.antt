-- An entropy device in the fields of a file: what is kept of it fits, where each number of it has its width.
use Rattle.std.proofs.Common.{◌≡◌, ◌≤◌, ◌<◌, ◌^◌, ◌+◌, ◌/◌, ℕ, nat_le, true, refl, arith, List, length}
use Rattle.std.proofs.lemmas.Bool.{and_parts, leb-true}
use Rattle.file_format.proofs.Fitting.{fits8, fits32}
use Rattle.vq_split.specs.declared.queue.Part.{Part}
use Rattle.vq_split.specs.Kept.{are_inside}
use Rattle.vq_split.proofs.Kept.{inside_of}
use Rattle.queue_device.specs.declared.device.QueueRounds.{QueueRounds}
use Rattle.queue_device.specs.declared.lanes.Which.{Which}
use Rattle.queue_device.specs.declared.phase.Work.{Work}
use Rattle.queue_device.specs.declared.phase.Work.TheVariants as work
use Rattle.queue_device.specs.Kept.{work_of}
use Rattle.queue_device.specs.Resuming.{AreShort}
use Rattle.queue_device.specs.Sizes.{IsNarrowPhase}
use Rattle.queue_device.proofs.KeptStays.{TestParts}
use Rattle.block_device.proofs.Kept.{ArePart}
use Rattle.entropy_device.specs.declared.kind.Stage.{Stage}
use Rattle.entropy_device.specs.declared.kind.Stage.TheVariants as at
use Rattle.entropy_device.specs.Entropy as entropies
use Rattle.entropy_device.specs.States.{is_state}
use Rattle.entropy_device.specs.Words.{word_count}
use Rattle.entropy_device.specs.Work.{IsSizedData, IsSmallStage, Kept, are_parts, is_stage, is_word, is_work}
use Rattle.entropy_device.proofs.Stages.{stage_of, word_of_test}
use Rattle.snap_devices.specs.Entropies.{stage as stage_format, entropy, entropy_fields, kind, kind_fields}
use Rattle.snap_devices.proofs.NetFits.{limits_fit}
use Rattle.snap_devices.proofs.PieceFits.{held_fits, parts_fit}
use Rattle.snap_devices.proofs.RoundsFits.{facts, place_fits, rounds_fit}

-- ---- what it is at in a chain

-- it has something to want, and its bytes and numbers fit
record StageFits (s : Stage) : Type 0 where
  has : is_stage s ≡ true
  fits : stage_format.Fits s

rest_fits : StageFits at.Rest
unfolding stage_format
rest_fits = record { has = refl; fits = (fits8 0 (omega arith), refl) }

parts_are : (pages : ℕ) (parts : List Part) → are_parts pages parts ≡ true → ArePart pages parts
parts_are pages parts is =
    let both = and_parts (are_inside pages parts) (nat_le (length parts) 256) is in
    (inside_of pages parts both.0, leb-true _ _ both.1)

-- words are few
index_few : (len index : ℕ) → len ≤ 4096 → index < word_count len → index < 2 ^ 32
index_few len index most more =
    let n : (len + 7) / 8 ≤ 512 = omega (arith, most) in omega (arith, more, n)

module _ (pages : ℕ) (few : pages ≤ 2 ^ 20) where
  served_fits : (k : Which) (s : Stage) → is_work (work.Serve k) pages s ≡ true → IsSmallStage s → StageFits s
  unfolding stage_format
  served_fits k at.Rest is small = absurd (cc)
  served_fits k (at.Draw len index to) is small =
      let both = and_parts (is_word len index) (are_parts pages to) is in
      let word = word_of_test len index both.0 in
      let most = word.most in record {
        has = both.0;
        fits = (
          fits8 1 (omega arith),
          (refl, (fits32 len (omega (arith, most)), (fits32 index (index_few len index word.most word.more), parts_fit pages to few (parts_are pages to both.1)))),
        );
      }
  served_fits k (at.Write len index spill) is small =
      let both = and_parts (is_stage (at.Write len index spill)) (are_parts pages spill.to) is in
      let own = stage_of (at.Write len index spill) both.0 in
      let word = own.0 in
      let most = word.most in
      let short = own.2 in record {
        has = both.0;
        fits = (
          fits8 2 (omega arith),
          (
            refl,
            (
              fits32 len (omega (arith, most)),
              (
                fits32 index (index_few len index word.most word.more),
                (parts_fit pages spill.to few (parts_are pages spill.to both.1), held_fits spill.held (omega (arith, short), small)),
              ),
            ),
          ),
        );
      }

  rests_fit : (s : Stage) → is_work work.Rest pages s ≡ true → StageFits s
  rests_fit at.Rest is = rest_fits
  rests_fit (at.Draw len index to) is = absurd (cc)
  rests_fit (at.Write len index spill) is = absurd (cc)

  no_answer : (s : Stage) → is_work work.Answer pages s ≡ true → StageFits s
  no_answer s is = absurd (cc)

  no_take : (k : Which) (s : Stage) → is_work (work.Take k) pages s ≡ true → StageFits s
  no_take k s is = absurd (cc)

  stage_fits : (w : Work) (s : Stage) → is_work w pages s ≡ true → IsSmallStage s → StageFits s
  stage_fits work.Rest s is small = rests_fit s is
  stage_fits work.Answer s is small = no_answer s is
  stage_fits (work.Take k) s is small = no_take k s is
  stage_fits (work.Serve k) s is small = served_fits k s is small

-- ---- all of it

-- an entropy device of a guest of at most 2^20 pages, at a port whose number is a byte
module _ (e : QueueRounds Kept) (is : is_state e ≡ true) (few : e.rounds.pages ≤ 2 ^ 20) (port : e.rounds.port < 2 ^ 8)
    (short : AreShort true e.rounds) (narrow : IsNarrowPhase e.phase) (small : IsSmallStage e.kind.stage)
    (own : IsSizedData true e.kind.own) where
  parts : TestParts entropies.entropy true is_work e.phase e.rounds e.kind.stage
  parts = facts entropies.entropy true is_work e.phase e.rounds e.kind.stage is few port short

  pub entropy_fits : entropy.Fits e
  unfolding entropy entropy_fields kind kind_fields
  entropy_fits =
      let kept = stage_fits e.rounds.pages few (work_of e.phase) e.kind.stage parts.works small in (
        (
          rounds_fit entropies.entropy true is_work e.phase e.rounds e.kind.stage is few port short,
          (
            place_fits entropies.entropy true is_work e.phase e.rounds e.kind.stage is few port short e.phase parts.place narrow,
            ((limits_fit e.kind.own.limits (own refl), kept.fits), kept.has),
          ),
        ),
        is,
      )
