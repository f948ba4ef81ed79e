-- The work of an entropy device is where it may be.
use Rattle.std.proofs.Common.{◌≡◌, ℕ, ◌^◌, ◌<◌, ◌≤◌, ◌==◌, nat_le, refl, true, Some, List, length, arith}
use Rattle.std.proofs.lemmas.Bool.{and_from, and_parts, le-leb, lt-ltb}
use Rattle.vq_split.specs.declared.queue.Part.{Part}
use Rattle.vq_split.specs.Kept.{are_inside}
use Rattle.dev_core.specs.Pieces.{past, readable, share, total}
use Rattle.queue_device.specs.declared.lanes.Which.{Which}
use Rattle.queue_device.specs.declared.phase.Work.TheVariants as work
use Rattle.queue_device.specs.declared.spill.Spill.{Spill}
use Rattle.queue_device.specs.Chains.{Chain}
use Rattle.queue_device.specs.Confined.{is_chain}
use Rattle.queue_device.specs.Kept.{is_fit}
use Rattle.queue_device.proofs.Pieces.{past_test}
use Rattle.entropy_device.specs.declared.kind.Stage.TheVariants as stage
use Rattle.entropy_device.specs.Entropy.{entropy, kept_of}
use Rattle.entropy_device.specs.Words.{word_count}
use Rattle.entropy_device.specs.Work.{IsWord, are_parts, is_stage, is_word, is_work}
use Rattle.entropy_device.proofs.Stages.{test_of_word}

-- ---- a chain is taken

pub taken : (pages : ℕ) (k : Which) (parts : List Part) → are_inside pages parts ≡ true → (total (readable parts) == 0) ≡ true
    → is_fit entropy pages k (Some (kept_of parts)) ≡ true
taken pages k parts inside none = and_from _ _ (and_from _ _ inside refl) none

pub chain_parts : (pages : ℕ) (k : Which) (c : Chain) → is_chain entropy pages k c ≡ true → are_inside pages c.parts ≡ true
chain_parts pages k c is =
    (and_parts _ (are_inside pages c.parts)
    (and_parts _ (are_inside pages c.got.parts) (and_parts _ (entropy.is_taken k c.parts c.got) is).0).0).1

-- ---- a word is asked for

pub draw_more : (pages : ℕ) (k : Which) (len index : ℕ) (to : List Part) → len ≤ 4096 → index < word_count len → length to ≤ 256
    → are_inside pages to ≡ true → is_work (work.Serve k) pages (stage.Draw len index to) ≡ true
draw_more pages k len index to most more few inside =
    and_from _ _ (test_of_word len index (record { most = most; more = more })) (and_from _ _ inside (le-leb _ _ few))

pub draw_inside : (pages : ℕ) (k : Which) (len index : ℕ) (to : List Part) → is_work (work.Serve k) pages (stage.Draw len index to) ≡ true
    → are_inside pages to ≡ true
draw_inside pages k len index to is =
    (and_parts (are_inside pages to) (nat_le (length to) 256) (and_parts (is_word len index) (are_parts pages to) is).1).0

-- ---- its bytes are written

pub write_more : (pages : ℕ) (k : Which) (len index : ℕ) (spill : Spill) → IsWord len index → 0 < share spill.held spill.to
    → length spill.held ≤ 8 → length spill.to ≤ 256 → are_inside pages spill.to ≡ true
    → is_work (work.Serve k) pages (stage.Write len index spill) ≡ true
write_more pages k len index spill word some held few inside =
    and_from _ _ (and_from _ _ (and_from _ _ (test_of_word len index word) (lt-ltb _ _ some)) (le-leb _ _ held))
    (and_from _ _ inside (le-leb _ _ few))

pub write_inside : (pages : ℕ) (k : Which) (len index : ℕ) (spill : Spill) → is_work (work.Serve k) pages (stage.Write len index spill) ≡ true
    → are_inside pages spill.to ≡ true
write_inside pages k len index spill is =
    (and_parts (are_inside pages spill.to) (nat_le (length spill.to) 256)
    (and_parts (is_stage (stage.Write len index spill)) (are_parts pages spill.to) is).1).0

pub write_next : (pages : ℕ) (k : Which) (len index : ℕ) (spill now : Spill) → pages < 2 ^ 32
    → is_work (work.Serve k) pages (stage.Write len index spill) ≡ true → now.to ≡ past (share spill.held spill.to) spill.to
    → are_inside pages now.to ≡ true
write_next pages k len index spill now few is left =
    rw left (past_test pages (share spill.held spill.to) spill.to few (omega arith) (write_inside pages k len index spill is))
