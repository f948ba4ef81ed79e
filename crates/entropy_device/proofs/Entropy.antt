-- All that an entropy device owes.
use Rattle.std.proofs.Common.{ℕ, zero, suc, ◌-◌, ◌^◌, ◌<◌, ◌==◌, refl, inr, true, false, Option, Some, None, List}
use Rattle.vm_types.specs.declared.op.Op.TheVariants.{Out, Write}
use Rattle.vm_types.specs.declared.op.OutOp.TheVariants.{DrawWord}
use Rattle.device_trace.specs.Acts.{IsAskedBy}
use Rattle.device_trace.specs.Doing.{Doing, and_then}
use Rattle.device_trace.specs.Keeps.{Keeps}
use Rattle.device_trace.specs.Traces.{setting}
use Rattle.device_trace.proofs.Keeping.{keeps_both, keeps_then}
use Rattle.device_trace.proofs.Leading.{no_cut}
use Rattle.vq_split.specs.declared.queue.Part.{Part}
use Rattle.vq_split.specs.Inside.{AreInside, IsInside}
use Rattle.dev_core.specs.Inside.{Any}
use Rattle.dev_core.specs.Pieces.{put_all, readable, total}
use Rattle.dev_core.proofs.Asking.{put_all_asks}
use Rattle.dev_core.proofs.Inside.{put_all_keeps}
use Rattle.queue_device.specs.declared.lanes.Which.{Which}
use Rattle.queue_device.specs.Acting.{ActingKeeps}
use Rattle.queue_device.specs.Chains.{Chain, Taken}
use Rattle.queue_device.specs.Confined.{Confines, IsChain, IsDeviceAct, IsTaken}
use Rattle.queue_device.proofs.Acting.{keeps_either, keeps_when, performing_keeps}
use Rattle.entropy_device.specs.Entropy.{Entropy, entropy, filled, is_word_call, served_by, taken_by, unchanged}
use Rattle.entropy_device.specs.Words.{before, filled_length, filling, filling_from, with_word, word_bytes, word_count, word_of, writing}

pub writes : (port at : ℕ) (piece : List ℕ) → IsAskedBy false is_word_call port (Write at piece)
writes port at piece = inr (tt, tt)

module _ (port pages : ℕ) where
  pub asks : IsDeviceAct false is_word_call port pages (Out DrawWord)
  asks = (λ few. tt, inr (refl, refl))

  -- the parts that are left, in a guest of fewer than 2^32 pages
  abbrev pub IsLeft : List Part → Type 0
  IsLeft left = (pages < 2 ^ 32 → AreInside pages left) × Any {A = List Part} left

  pub put_stays : (bytes : List ℕ) (parts : List Part) → (pages < 2 ^ 32 → AreInside pages parts)
      → Keeps (IsDeviceAct false is_word_call port pages) IsLeft (put_all bytes parts)
  put_stays bytes parts inside =
      keeps_both (λ op. pages < 2 ^ 32 → IsInside pages op) (IsAskedBy false is_word_call port)
      (λ (left : List Part). pages < 2 ^ 32 → AreInside pages left) (Any {A = List Part}) (put_all bytes parts)
      (keeps_when (pages < 2 ^ 32) (IsInside pages) (λ (left : List Part). AreInside pages left) (put_all bytes parts)
      (λ few. put_all_keeps pages bytes parts few (inside few)))
      (put_all_asks (IsAskedBy false is_word_call port) (writes port) bytes parts)

  -- a word's bytes are written, and then what follows
  word_stays : (word : Option ℕ) (len index : ℕ) (parts : List Part) (more : List Part → Doing ℕ)
      → (pages < 2 ^ 32 → AreInside pages parts)
      → ((rest : List Part) → (pages < 2 ^ 32 → AreInside pages rest)
      → Keeps (IsDeviceAct false is_word_call port pages) (Any {A = ℕ}) (more rest))
      → Keeps (IsDeviceAct false is_word_call port pages) (Any {A = ℕ})
      (with_word word (before index) (λ word. and_then (put_all (word_bytes len index word) parts) more))
  word_stays None len index parts more inside each = tt
  word_stays (Some word) len index parts more inside each =
      keeps_then (IsDeviceAct false is_word_call port pages) IsLeft (Any {A = ℕ}) (put_all (word_bytes len index word) parts) more
      (put_stays (word_bytes len index word) parts inside) (λ rest left. each rest left.0)

  pub filling_stays : (n len index : ℕ) (parts : List Part) → (pages < 2 ^ 32 → AreInside pages parts)
      → Keeps (IsDeviceAct false is_word_call port pages) (Any {A = ℕ}) (filling n len index parts)
  filling_stays zero len index parts inside = tt
  filling_stays (suc n) len index parts inside = (
    asks,
    λ reply fit. word_stays (word_of reply) len index parts (λ rest. filling n len (suc index) rest) inside
        (λ rest left. filling_stays n len (suc index) rest left),
  )

  pub writing_stays : (len index : ℕ) (bytes : List ℕ) (parts : List Part) → (pages < 2 ^ 32 → AreInside pages parts)
      → Keeps (IsDeviceAct false is_word_call port pages) (Any {A = ℕ}) (writing len index bytes parts)
  writing_stays len index bytes parts inside =
      keeps_then (IsDeviceAct false is_word_call port pages) IsLeft (Any {A = ℕ}) (put_all bytes parts)
      (λ rest. filling_from len (suc index) rest) (put_stays bytes parts inside)
      (λ rest left. filling_stays (word_count len - suc index) len (suc index) rest left.0)

  take : (k : Which) (parts : List Part) (e : Entropy) → (pages < 2 ^ 32 → AreInside pages parts)
      → ActingKeeps (IsDeviceAct false is_word_call port pages) (λ (t : Option Taken). pages < 2 ^ 32 → IsTaken entropy pages k t)
      (taken_by parts e)
  take k parts e inside =
      keeps_either (IsDeviceAct false is_word_call port pages) (λ (t : Option Taken). pages < 2 ^ 32 → IsTaken entropy pages k t)
      (total (readable parts) == 0) _ _ (λ none few. (inside few, tt, none)) (λ some few. tt)

  serve : (k : Which) (c : Chain) (e : Entropy) → (pages < 2 ^ 32 → IsChain entropy pages k c)
      → ActingKeeps (IsDeviceAct false is_word_call port pages) (λ (len : Option ℕ). Unit {0}) (served_by c e)
  serve k c e chain =
      performing_keeps (IsDeviceAct false is_word_call port pages) (Any {A = ℕ}) (λ (len : Option ℕ). Unit {0})
      (filling_from (filled_length c.parts) 0 c.parts) e filled
      (filling_stays (word_count (filled_length c.parts) - 0) (filled_length c.parts) 0 c.parts (λ few. (chain few).parts))
      (λ f len any. tt)

pub owes : Confines entropy (setting unchanged) true is_word_call
owes = record {
  question = λ port pages e. (λ few. tt, inr (tt, tt));
  answer = λ port pages before e reply fit. tt;
  take = take;
  serve = serve;
  untimed = λ no. absurd (cc);
  cut = no_cut unchanged;
}
