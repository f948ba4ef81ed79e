-- All that a balloon owes.
use Rattle.std.proofs.Common.{◌≡◌, ℕ, zero, suc, ◌+◌, ◌*◌, ◌/◌, ◌%◌, ◌^◌, ◌<◌, ◌≤◌, ◌==◌, refl, inr, false, true, not, Option, List, [], ◌++◌, length, drop, arith}
use Rattle.device_trace.specs.Doing.{Gives}
use Rattle.device_trace.specs.Keeps.{Keeps}
use Rattle.device_trace.specs.Traces.{setting}
use Rattle.device_trace.proofs.Keeping.{keeps_if, keeps_then}
use Rattle.device_trace.proofs.Leading.{no_cut}
use Rattle.guest_memory.specs.Ram.{page_size}
use Rattle.le_fields.specs.Fields.{field_at}
use Rattle.vq_split.specs.declared.queue.Part.{Part}
use Rattle.vq_split.specs.Chain.{is_inside}
use Rattle.vq_split.specs.Inside.{AreInside}
use Rattle.vq_split.proofs.Inside.{in_ram, of_ram}
use Rattle.dev_core.specs.Inside.{Any}
use Rattle.dev_core.specs.Pieces.{readable, total}
use Rattle.dev_core.proofs.Inside.{filter_inside}
use Rattle.queue_device.specs.declared.lanes.Which.{Which}
use Rattle.queue_device.specs.declared.lanes.Which.TheVariants.{First, Second, Third}
use Rattle.queue_device.specs.Acting.{ActingKeeps}
use Rattle.queue_device.specs.Chains.{Chain, Taken}
use Rattle.queue_device.specs.Confined.{Confines, IsChain, IsDeviceAct, IsTaken}
use Rattle.queue_device.proofs.Acting.{keeps_either, performing_keeps}
use Rattle.balloon_device.specs.declared.statistics.Statistics.{Statistics}
use Rattle.balloon_device.specs.Balloon.{Balloon, balloon, changed, listed_by, no_call, pages_done, served_by, tags_done, taken_by}
use Rattle.balloon_device.specs.Pages.{all_zeroed, inflated, numbers_zeroed, page_zeroed, zeros}
use Rattle.balloon_device.specs.Statistics.{Telling, all_told, no_statistics, told}
use Rattle.balloon_device.proofs.Pieces.{read_keeps}

module _ (port pages : ℕ) where
  -- a page in RAM is written inside RAM
  pub zeros_keep : (count at : ℕ) → 0x80000000 ≤ at → (pages < 2 ^ 32 → at + 64 * count ≤ 0x80000000 + 4096 * pages)
      → Keeps (IsDeviceAct false no_call port pages) (Any {A = Unit {0}}) (zeros count at)
  zeros_keep zero at low high = tt
  zeros_keep (suc count) at low high = (
    (λ few. in_ram pages at 64 low (omega (arith, high few)) (omega arith), inr (tt, tt)),
    λ reply fit. zeros_keep count (at + 64) (omega (arith, low)) (λ few. omega (arith, high few)),
  )

  -- the pages of its queue are the device's
  module _ (own : ℕ) (same : pages < 2 ^ 32 → own ≡ pages) where
    page_keeps : (number : ℕ) → Keeps (IsDeviceAct false no_call port pages) (Any {A = Unit {0}}) (page_zeroed own number)
    page_keeps number =
        keeps_if (IsDeviceAct false no_call port pages) (Any {A = Unit {0}}) (is_inside own (page_size * number) page_size) _ _ _ refl
        (λ inside.
        let r = of_ram own (page_size * number) page_size inside in
        zeros_keep 64 (page_size * number) r.0 (λ few. omega (arith, r, same few)))
        (λ outside. tt)

    pub numbers_keep : (count : ℕ) (bytes : List ℕ)
        → Keeps (IsDeviceAct false no_call port pages) (Any {A = List ℕ}) (numbers_zeroed own count bytes)
    numbers_keep zero bytes = tt
    numbers_keep (suc count) bytes =
        keeps_then (IsDeviceAct false no_call port pages) (Any {A = Unit {0}}) (Any {A = List ℕ}) (page_zeroed own (field_at bytes 0 4)) _
        (page_keeps (field_at bytes 0 4)) (λ done any. numbers_keep count (drop 4 bytes))

    inflated_keeps : (parts : List Part) → (pages < 2 ^ 32 → AreInside pages parts)
        → Keeps (IsDeviceAct false no_call port pages) (Any {A = List ℕ}) (inflated own parts)
    inflated_keeps parts inside =
        read_keeps (λ begun piece. all_zeroed own (begun ++ piece)) port pages
        (λ begun piece. numbers_keep (length (begun ++ piece) / 4) (begun ++ piece)) [] parts inside

  told_keeps : (parts : List Part) → (pages < 2 ^ 32 → AreInside pages parts)
      → Keeps (IsDeviceAct false no_call port pages) (Any {A = Statistics}) (told parts)
  told_keeps parts inside =
      keeps_then (IsDeviceAct false no_call port pages) (Any {A = Telling}) (Any {A = Statistics}) _ _
      (read_keeps (λ (t : Telling) piece. Gives (all_told (t.begun ++ piece) t.so_far)) port pages (λ t piece. tt)
      (record { begun = []; so_far = no_statistics }) parts inside)
      (λ t any. tt)

-- what is kept of a chain, in a guest of fewer than 2^32 pages
abbrev Taking : ℕ → Which → Option Taken → Type 0
Taking pages k t = pages < 2 ^ 32 → IsTaken balloon pages k t

listed : (port pages : ℕ) (k : Which) (parts : List Part) (e : Balloon) → (pages < 2 ^ 32 → AreInside pages parts)
    → ActingKeeps (IsDeviceAct false no_call port pages) (Taking pages k) (listed_by parts e)
listed port pages k parts e inside =
    keeps_either (IsDeviceAct false no_call port pages) (Taking pages k) (total (readable parts) % 4 == 0) _ _
    (λ whole few. (inside few, tt, refl)) (λ odd few. tt)

take : (port pages : ℕ) (k : Which) (parts : List Part) (e : Balloon) → (pages < 2 ^ 32 → AreInside pages parts)
    → ActingKeeps (IsDeviceAct false no_call port pages) (Taking pages k) (taken_by k parts e)
take port pages First parts e inside = listed port pages First parts e inside
take port pages Second parts e inside = listed port pages Second parts e inside
take port pages Third parts e inside = λ few. (inside few, tt, refl)

serve : (port pages : ℕ) (k : Which) (c : Chain) (e : Balloon) → (pages < 2 ^ 32 → IsChain balloon pages k c)
    → ActingKeeps (IsDeviceAct false no_call port pages) (λ (len : Option ℕ). Unit {0}) (served_by k c e)
serve port pages First c e chain =
    performing_keeps (IsDeviceAct false no_call port pages) (Any {A = List ℕ}) (λ (len : Option ℕ). Unit {0})
    (inflated c.queue.pages (readable c.parts)) e pages_done
    (inflated_keeps port pages c.queue.pages (λ few. (chain few).pages_are) (readable c.parts)
    (λ few. filter_inside pages (λ (part : Part). not part.writable) c.parts (chain few).parts))
    (λ f begun any. tt)
serve port pages Second c e chain = tt
serve port pages Third c e chain =
    performing_keeps (IsDeviceAct false no_call port pages) (Any {A = Statistics}) (λ (len : Option ℕ). Unit {0})
    (told (readable c.parts)) e tags_done
    (told_keeps port pages (readable c.parts)
    (λ few. filter_inside pages (λ (part : Part). not part.writable) c.parts (chain few).parts))
    (λ f s any. tt)

pub owes : Confines balloon (setting changed) true no_call
owes = record {
  question = λ port pages e. (λ few. tt, inr (tt, tt));
  answer = λ port pages before e reply fit. tt;
  take = take;
  serve = serve;
  untimed = λ no. absurd (cc);
  cut = no_cut changed;
}
