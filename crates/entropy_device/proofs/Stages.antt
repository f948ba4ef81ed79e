-- The stages that an entropy device may be in, by what is so in them.
use Rattle.std.proofs.Common.{◌≡◌, ℕ, nat_le, nat_lt, refl, true, length}
use Rattle.std.proofs.lemmas.Bool.{and_from, and_parts, le-leb, leb-true, lt-ltb, ltb-true}
use Rattle.dev_core.specs.Pieces.{share}
use Rattle.entropy_device.specs.declared.kind.Stage.{Stage}
use Rattle.entropy_device.specs.declared.kind.Stage.TheVariants as stage
use Rattle.entropy_device.specs.Words.{word_count}
use Rattle.entropy_device.specs.Work.{IsStage, IsWord, is_stage, is_word}

pub word_of_test : (len index : ℕ) → is_word len index ≡ true → IsWord len index
word_of_test len index is =
    let parts = and_parts (nat_le len 4096) (nat_lt index (word_count len)) is in
    record { most = leb-true _ _ parts.0; more = ltb-true _ _ parts.1 }

pub test_of_word : (len index : ℕ) → IsWord len index → is_word len index ≡ true
test_of_word len index is = and_from _ _ (le-leb _ _ is.most) (lt-ltb _ _ is.more)

pub stage_of : (s : Stage) → is_stage s ≡ true → IsStage s
stage_of stage.Rest is = tt
stage_of (stage.Draw len index to) is = word_of_test len index is
stage_of (stage.Write len index spill) is =
    let p1 = and_parts _ (nat_le (length spill.held) 8) is in
    let p0 = and_parts (is_word len index) (nat_lt 0 (share spill.held spill.to)) p1.0 in
    (word_of_test len index p0.0, ltb-true _ _ p0.1, leb-true _ _ p1.1)

pub test_of_stage : (s : Stage) → IsStage s → is_stage s ≡ true
test_of_stage stage.Rest is = refl
test_of_stage (stage.Draw len index to) is = test_of_word len index is
test_of_stage (stage.Write len index spill) is =
    and_from _ _ (and_from _ _ (test_of_word len index is.0) (lt-ltb _ _ is.1)) (le-leb _ _ is.2)
