-- The test of what a block device keeps in a chain, and what it tests.
use Rattle.std.proofs.Common.{◌≡◌, ℕ, ◌+◌, ◌/◌, ◌^◌, ◌==◌, ◌≤◌, ◌&&◌, nat_le, nat_lt, refl, ap, ◌∙◌, true, List, [], ◌∷◌, length, arith}
use Rattle.std.proofs.lemmas.Bool.{and_from, and_parts, le-leb, leb-true, lt-ltb, ltb-true}
use Rattle.vq_split.specs.declared.queue.Part.{Part}
use Rattle.vq_split.specs.Inside.{AreInside}
use Rattle.vq_split.specs.Kept.{are_inside}
use Rattle.vq_split.proofs.Kept.{are_of, inside_of}
use Rattle.dev_core.specs.declared.collect.Collect.{Collect}
use Rattle.dev_core.specs.Collecting.{nothing}
use Rattle.dev_core.specs.Pieces.{room, share}
use Rattle.queue_device.specs.declared.phase.Work.{Work}
use Rattle.block_device.specs.declared.stage.ServiceStage.{ServiceStage}
use Rattle.block_device.specs.declared.stage.ServiceStage.TheVariants as stage
use Rattle.block_device.specs.declared.work.BlockStage.{BlockStage}
use Rattle.block_device.specs.declared.work.BlockStage.TheVariants as at
use Rattle.block_device.specs.Kept.{are_placed, has_place, is_at, is_clear, is_nothing, is_of, is_stage, is_within, is_work}
use Rattle.block_device.specs.Serving.{IsStage, IsWithin}
use Rattle.block_device.specs.Working.{IsAt, IsClear, Working}

empty : {A : Type 0} (xs : List A) → (length xs == 0) ≡ true → xs ≡ []
empty [] is = refl
empty (x ∷ xs) is = grind arith

-- ---- what is clear

abbrev made : List Part → List ℕ → Collect
made parts held = record { from = parts; held = held }

nothing_of : (from : Collect) → is_nothing from ≡ true → from ≡ nothing
nothing_of from is =
    let h = and_parts (length from.from == 0) (length from.held == 0) is in
    ap (λ (parts : List Part). made parts from.held) (empty from.from h.0) ∙ ap (made []) (empty from.held h.1)

test_of_nothing : (from : Collect) → from ≡ nothing → is_nothing from ≡ true
test_of_nothing from is = ap is_nothing is

none_is : (parts : List Part) → parts ≡ [] → (length parts == 0) ≡ true
none_is parts is = ap (λ (xs : List Part). length xs == 0) is

clear_of : (from : Collect) (to : List Part) → is_clear from to ≡ true → IsClear from to
clear_of from to is =
    let h = and_parts (is_nothing from) (length to == 0) is in
    (nothing_of from h.0, empty to h.1)

test_of_clear : (from : Collect) (to : List Part) → IsClear from to → is_clear from to ≡ true
test_of_clear from to is =
    and_from (is_nothing from) (length to == 0) (test_of_nothing from is.0) (none_is to is.1)

-- ---- the service's stages

within_of : (sector unit more : ℕ) → is_within sector unit more ≡ true → IsWithin sector unit more
within_of sector unit more is =
    let h = and_parts (nat_lt (unit + more) (2 ^ 50)) (nat_lt (sector + (unit + more) / 8) (2 ^ 64)) is in
    record { units = ltb-true _ _ h.0; inside = ltb-true _ _ h.1 }

test_of_within : (sector unit more : ℕ) → IsWithin sector unit more → is_within sector unit more ≡ true
test_of_within sector unit more is =
    and_from (nat_lt (unit + more) (2 ^ 50)) (nat_lt (sector + (unit + more) / 8) (2 ^ 64)) (lt-ltb _ _ is.units)
    (lt-ltb _ _ is.inside)

pub stage_of : (s : ServiceStage) (from : Collect) (to : List Part) → is_stage s from to ≡ true → IsStage s from to
stage_of (stage.Read sector unit more) from to is =
    let h = and_parts (is_within sector unit more && is_nothing from) (nat_lt unit (2 ^ 26)) is in
    let g = and_parts (is_within sector unit more) (is_nothing from) h.0 in
    (within_of sector unit more g.0, nothing_of from g.1, ltb-true _ _ h.1)
stage_of (stage.Put sector unit more) from to is =
    let h = and_parts (is_within sector unit more && (length from.from == 0) && nat_lt 0 (share from.held to))
    (nat_lt unit (2 ^ 26)) is in
    let g = and_parts (is_within sector unit more && (length from.from == 0)) (nat_lt 0 (share from.held to)) h.0 in
    let f = and_parts (is_within sector unit more) (length from.from == 0) g.0 in
    (within_of sector unit more f.0, empty from.from f.1, ltb-true _ _ g.1, ltb-true _ _ h.1)
stage_of stage.PutId from to is =
    let h = and_parts (length from.from == 0) (nat_lt 0 (share from.held to)) is in
    (empty from.from h.0, ltb-true _ _ h.1)
stage_of (stage.Gather sector part more) from to is =
    let h = and_parts (is_within sector part more && (length to == 0) && nat_lt (length from.held) 64
    && nat_lt 0 (room from.from)) (nat_lt part 8) is in
    let g = and_parts (is_within sector part more && (length to == 0) && nat_lt (length from.held) 64)
    (nat_lt 0 (room from.from)) h.0 in
    let f = and_parts (is_within sector part more && (length to == 0)) (nat_lt (length from.held) 64) g.0 in
    let e = and_parts (is_within sector part more) (length to == 0) f.0 in
    (within_of sector part more e.0, empty to e.1, ltb-true _ _ f.1, ltb-true _ _ g.1, ltb-true _ _ h.1)
stage_of (stage.Disk sector part more) from to is =
    let h = and_parts (is_within sector part more && (length to == 0)) (nat_lt part 8) is in
    let g = and_parts (is_within sector part more) (length to == 0) h.0 in
    (within_of sector part more g.0, empty to g.1, ltb-true _ _ h.1)
stage_of stage.Flush from to is = clear_of from to is
stage_of (stage.Status status used) from to is = clear_of from to is

test_of_stage : (s : ServiceStage) (from : Collect) (to : List Part) → IsStage s from to → is_stage s from to ≡ true
test_of_stage (stage.Read sector unit more) from to is =
    and_from _ _ (and_from _ _ (test_of_within sector unit more is.0) (test_of_nothing from is.1)) (lt-ltb _ _ is.2)
test_of_stage (stage.Put sector unit more) from to is =
    and_from _ _ (and_from _ _ (and_from _ _ (test_of_within sector unit more is.0) (none_is from.from is.1)) (lt-ltb _ _ is.2))
    (lt-ltb _ _ is.3)
test_of_stage stage.PutId from to is = and_from _ _ (none_is from.from is.0) (lt-ltb _ _ is.1)
test_of_stage (stage.Gather sector part more) from to is =
    and_from _ _
    (and_from _ _ (and_from _ _ (and_from _ _ (test_of_within sector part more is.0) (none_is to is.1)) (lt-ltb _ _ is.2))
    (lt-ltb _ _ is.3))
    (lt-ltb _ _ is.4)
test_of_stage (stage.Disk sector part more) from to is =
    and_from _ _ (and_from _ _ (test_of_within sector part more is.0) (none_is to is.1)) (lt-ltb _ _ is.2)
test_of_stage stage.Flush from to is = test_of_clear from to is
test_of_stage (stage.Status status used) from to is = test_of_clear from to is

-- ---- what is kept

pub at_of : (s : BlockStage) (from : Collect) (to : List Part) → is_at s from to ≡ true → IsAt s from to
at_of at.Rest from to is = clear_of from to is
at_of at.Header from to is =
    let h = and_parts (nat_lt (length from.held) 16 && nat_lt 0 (room from.from)) (nat_lt 0 (length to)) is in
    let g = and_parts (nat_lt (length from.held) 16) (nat_lt 0 (room from.from)) h.0 in
    (ltb-true _ _ g.0, ltb-true _ _ g.1, ltb-true _ _ h.1)
at_of (at.Serve status s) from to is = stage_of s from to is

test_of_at : (s : BlockStage) (from : Collect) (to : List Part) → IsAt s from to → is_at s from to ≡ true
test_of_at at.Rest from to is = test_of_clear from to is
test_of_at at.Header from to is = and_from _ _ (and_from _ _ (lt-ltb _ _ is.0) (lt-ltb _ _ is.1)) (lt-ltb _ _ is.2)
test_of_at (at.Serve status s) from to is = test_of_stage s from to is

-- parts inside RAM, at most 256 of them
abbrev pub ArePart : ℕ → List Part → Type 0
ArePart pages parts = AreInside pages parts × (length parts ≤ 256)

placed_of : (pages : ℕ) (parts : List Part) → are_placed pages parts ≡ true → ArePart pages parts
placed_of pages parts is =
    let h = and_parts (are_inside pages parts) (nat_le (length parts) 256) is in
    (inside_of pages parts h.0, leb-true _ _ h.1)

test_of_placed : (pages : ℕ) (parts : List Part) → ArePart pages parts → are_placed pages parts ≡ true
test_of_placed pages parts is = and_from _ _ (are_of pages parts is.0) (le-leb _ _ is.1)

pub record IsWork (w : Work) (pages : ℕ) (b : Working) : Type 0 where
  pub of : is_of w b.stage ≡ true
  pub is : IsAt b.stage b.from b.to
  pub place : has_place pages b.stage ≡ true
  pub from : ArePart pages b.from.from
  pub to : ArePart pages b.to

pub work_of : (w : Work) (pages : ℕ) (b : Working) → is_work w pages b ≡ true → IsWork w pages b
work_of w pages b test =
    let p3 = and_parts _ (are_placed pages b.to) test in
    let p2 = and_parts _ (are_placed pages b.from.from) p3.0 in
    let p1 = and_parts _ (has_place pages b.stage) p2.0 in
    let p0 = and_parts (is_of w b.stage) (is_at b.stage b.from b.to) p1.0 in
    record {
      of = p0.0;
      is = at_of b.stage b.from b.to p0.1;
      place = p1.1;
      from = placed_of pages b.from.from p2.1;
      to = placed_of pages b.to p3.1;
    }

pub test_of_work : (w : Work) (pages : ℕ) (b : Working) → IsWork w pages b → is_work w pages b ≡ true
test_of_work w pages b it =
    and_from _ _
    (and_from _ _ (and_from _ _ (and_from _ _ it.of (test_of_at b.stage b.from b.to it.is)) it.place)
    (test_of_placed pages b.from.from it.from))
    (test_of_placed pages b.to it.to)
