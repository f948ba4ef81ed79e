-- The stages that a balloon may be in, by what is so in them.
use Rattle.std.proofs.Common.{◌≡◌, ℕ, ◌+◌, ◌*◌, ◌^◌, ◌<◌, ◌≤◌, ◌==◌, nat_le, nat_lt, refl, true, length, arith}
use Rattle.std.proofs.lemmas.Bool.{and_from, and_parts, eqb-true, le-leb, leb-true, lt-ltb, ltb-true}
use Rattle.vq_split.specs.Chain.{is_inside}
use Rattle.vq_split.specs.Inside.{AreInside}
use Rattle.vq_split.specs.Kept.{are_inside}
use Rattle.vq_split.proofs.Inside.{in_ram, of_ram}
use Rattle.vq_split.proofs.Kept.{are_of, inside_of, is_eq}
use Rattle.dev_core.specs.declared.collect.Collect.{Collect}
use Rattle.dev_core.specs.Pieces.{room}
use Rattle.queue_device.specs.declared.lanes.Which.TheVariants.{First}
use Rattle.queue_device.specs.declared.phase.Work.TheVariants as work
use Rattle.balloon_device.specs.declared.kind.Stage.{Stage}
use Rattle.balloon_device.specs.declared.kind.Stage.TheVariants as stage
use Rattle.balloon_device.specs.Work.{IsStage, is_open, is_reading, is_stage, is_work, is_zeroing}

-- ---- something to want

open_of : (most : ℕ) (from : Collect) → is_open most from ≡ true → (length from.held < most) × (0 < room from.from)
open_of most from is =
    let p = and_parts (nat_lt (length from.held) most) (nat_lt 0 (room from.from)) is in
    (ltb-true _ _ p.0, ltb-true _ _ p.1)

test_of_open : (most : ℕ) (from : Collect) → (length from.held < most) × (0 < room from.from) → is_open most from ≡ true
test_of_open most from is = and_from _ _ (lt-ltb _ _ is.0) (lt-ltb _ _ is.1)

pub stage_of : (s : Stage) → is_stage s ≡ true → IsStage s
stage_of stage.Rest is = tt
stage_of (stage.List list pages) is = open_of 4 list is
stage_of (stage.Zeros list pages left at) is =
    let p = and_parts (nat_lt 0 left) (nat_le (at + 64 * left) (2 ^ 45)) is in
    (ltb-true _ _ p.0, leb-true _ _ p.1)
stage_of (stage.Tags from s) is = open_of 10 from is

pub test_of_stage : (s : Stage) → IsStage s → is_stage s ≡ true
test_of_stage stage.Rest is = refl
test_of_stage (stage.List list pages) is = test_of_open 4 list is
test_of_stage (stage.Zeros list pages left at) is = and_from _ _ (lt-ltb _ _ is.0) (le-leb _ _ is.1)
test_of_stage (stage.Tags from s) is = test_of_open 10 from is

-- ---- inside RAM

pub record Reads (pages most : ℕ) (from : Collect) : Type 0 where
  pub short : length from.held < most
  pub space : 0 < room from.from
  pub inside : AreInside pages from.from
  pub few : length from.from ≤ 256

pub reads_of : (pages most : ℕ) (from : Collect) → is_reading pages most from ≡ true → Reads pages most from
reads_of pages most from is =
    let p2 = and_parts _ (nat_le (length from.from) 256) is in
    let p1 = and_parts _ (are_inside pages from.from) p2.0 in
    let p0 = and_parts (nat_lt (length from.held) most) (nat_lt 0 (room from.from)) p1.0 in
    record {
      short = ltb-true _ _ p0.0;
      space = ltb-true _ _ p0.1;
      inside = inside_of pages from.from p1.1;
      few = leb-true _ _ p2.1;
    }

pub test_of_reads : (pages most : ℕ) (from : Collect) → Reads pages most from → is_reading pages most from ≡ true
test_of_reads pages most from is =
    and_from _ _
    (and_from _ _ (and_from _ _ (lt-ltb _ _ is.short) (lt-ltb _ _ is.space)) (are_of pages from.from is.inside))
    (le-leb _ _ is.few)

pub record Zeroes (pages : ℕ) (list : Collect) (left at : ℕ) : Type 0 where
  pub some : 0 < left
  pub most : left ≤ 64
  pub low : 0x80000000 ≤ at
  pub high : at + 64 * left ≤ 0x80000000 + 4096 * pages
  pub short : length list.held < 64
  pub inside : AreInside pages list.from
  pub few : length list.from ≤ 256

pub zeroes_of : (pages : ℕ) (list : Collect) (left at : ℕ) → is_zeroing pages list left at ≡ true → Zeroes pages list left at
zeroes_of pages list left at is =
    let p4 = and_parts _ (nat_le (length list.from) 256) is in
    let p3 = and_parts _ (are_inside pages list.from) p4.0 in
    let p2 = and_parts _ (nat_lt (length list.held) 64) p3.0 in
    let p1 = and_parts _ (is_inside pages at (64 * left)) p2.0 in
    let p0 = and_parts (nat_lt 0 left) (nat_le left 64) p1.0 in
    let there = of_ram pages at (64 * left) p1.1 in
    record {
      some = ltb-true _ _ p0.0;
      most = leb-true _ _ p0.1;
      low = there.0;
      high = there.1;
      short = ltb-true _ _ p2.1;
      inside = inside_of pages list.from p3.1;
      few = leb-true _ _ p4.1;
    }

pub test_of_zeroes : (pages : ℕ) (list : Collect) (left at : ℕ) → Zeroes pages list left at → is_zeroing pages list left at ≡ true
test_of_zeroes pages list left at is =
    and_from _ _
    (and_from _ _
    (and_from _ _
    (and_from _ _ (and_from _ _ (lt-ltb _ _ is.some) (le-leb _ _ is.most)) (in_ram pages at (64 * left) is.low is.high (omega (arith, is.most))))
    (lt-ltb _ _ is.short)) (are_of pages list.from is.inside))
    (le-leb _ _ is.few)

pub list_of : (pages n : ℕ) (list : Collect) → is_work (work.Serve First) pages (stage.List list n) ≡ true
    → (n ≡ pages) × Reads pages 4 list
list_of pages n list is =
    let p = and_parts (n == pages) (is_reading pages 4 list) is in (eqb-true n pages p.0, reads_of pages 4 list p.1)

pub test_of_list : (pages : ℕ) (list : Collect) → Reads pages 4 list
    → is_work (work.Serve First) pages (stage.List list pages) ≡ true
test_of_list pages list is = and_from _ _ (is_eq pages pages refl) (test_of_reads pages 4 list is)

pub zeros_of : (pages n left at : ℕ) (list : Collect) → is_work (work.Serve First) pages (stage.Zeros list n left at) ≡ true
    → (n ≡ pages) × Zeroes pages list left at
zeros_of pages n left at list is =
    let p = and_parts (n == pages) (is_zeroing pages list left at) is in
    (eqb-true n pages p.0, zeroes_of pages list left at p.1)

pub test_of_zeros : (pages left at : ℕ) (list : Collect) → Zeroes pages list left at
    → is_work (work.Serve First) pages (stage.Zeros list pages left at) ≡ true
test_of_zeros pages left at list is = and_from _ _ (is_eq pages pages refl) (test_of_zeroes pages list left at is)
