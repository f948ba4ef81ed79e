-- The stages that a network device may be in, by what is so in them.
use Rattle.std.proofs.Common.{◌≡◌, ℕ, ◌+◌, ◌-◌, ◌*◌, ◌<◌, ◌≤◌, ◌==◌, ◌&&◌, min, nat_le, nat_lt, refl, sym, ap, ◌∙◌, Bool, true, List, length, drop, arith}
use Rattle.std.proofs.lemmas.Bool.{and_from, and_parts, eq-eqb, eqb-true, le-leb, leb-true, lt-ltb, ltb-true}
use Rattle.net_device.specs.declared.kind.Stage.{Stage}
use Rattle.net_device.specs.declared.kind.Stage.TheVariants as stage
use Rattle.net_device.specs.Frames.{header_size, pieces}
use Rattle.net_device.specs.Work.{IsAt, is_at}

pub stage_of : (s : Stage) (bytes : List ℕ) → is_at s bytes ≡ true → IsAt s bytes
stage_of stage.Rest bytes is = tt
stage_of (stage.Take size index) bytes is =
    let p1 = and_parts _ (length bytes == header_size + 64 * index) is in
    let p0 = and_parts (nat_le size 1514) (nat_lt index (pieces size)) p1.0 in
    (leb-true _ _ p0.0, ltb-true _ _ p0.1, eqb-true _ _ p1.1)
stage_of (stage.Receive at to) bytes is = ltb-true _ _ is
stage_of (stage.Read skip from) bytes is = ltb-true _ _ is
stage_of (stage.Send piece skip from) bytes is = ltb-true _ _ is
stage_of stage.End bytes is = tt

pub test_of_stage : (s : Stage) (bytes : List ℕ) → IsAt s bytes → is_at s bytes ≡ true
test_of_stage stage.Rest bytes is = refl
test_of_stage (stage.Take size index) bytes is =
    and_from _ _ (and_from _ _ (le-leb _ _ is.0) (lt-ltb _ _ is.1)) (eq-eqb _ _ is.2)
test_of_stage (stage.Receive at to) bytes is = lt-ltb _ _ is
test_of_stage (stage.Read skip from) bytes is = lt-ltb _ _ is
test_of_stage (stage.Send piece skip from) bytes is = lt-ltb _ _ is
test_of_stage stage.End bytes is = refl
