-- All that a block device owes.
use Rattle.std.proofs.Common.{◌≡◌, ℕ, ◌^◌, ◌<◌, ◌==◌, nat_lt, inr, true, false, not, Option, Some, List, [], length, arith}
use Rattle.std.proofs.lemmas.Bool.{or_parts}
use Rattle.device_trace.specs.Acts.{is_disk_call}
use Rattle.device_trace.specs.Traces.{setting}
use Rattle.device_trace.proofs.Leading.{no_cut}
use Rattle.vq_split.specs.declared.queue.Part.{Part}
use Rattle.vq_split.specs.Inside.{AreInside}
use Rattle.dev_core.specs.Inside.{Any}
use Rattle.dev_core.specs.Pieces.{Got, collect_all, readable, writable}
use Rattle.dev_core.proofs.Inside.{filter_inside, status_place}
use Rattle.queue_device.specs.declared.lanes.Which.{Which}
use Rattle.queue_device.specs.Acting.{ActingKeeps}
use Rattle.queue_device.specs.Chains.{Taken}
use Rattle.queue_device.specs.Confined.{Confines, IsDeviceAct, IsTaken}
use Rattle.queue_device.proofs.Acting.{keeps_either, performing_keeps}
use Rattle.queue_device.proofs.PieceActs.{collect_acts}
use Rattle.block_device.specs.declared.data.BlockData.{BlockData}
use Rattle.block_device.specs.Block.{block, changed, headed, is_short, request_of, served, taken}
use Rattle.block_device.specs.Service.{service}
use Rattle.block_device.proofs.Asking.{service_acts}

pub some_parts : (n : ℕ) → (n == 0) ≡ false → nat_lt 0 n ≡ true
some_parts n is = grind arith

pub none_not : (n : ℕ) → nat_lt 0 n ≡ true → (n == 0) ≡ false
none_not n is = grind arith

-- what is kept of a chain, in a guest of fewer than 2^32 pages
abbrev pub Taking : ℕ → Which → Option Taken → Type 0
Taking pages k t = pages < 2 ^ 32 → IsTaken block pages k t

module _ (port pages : ℕ) (k : Which) where
  take : (parts : List Part) (e : BlockData) → (pages < 2 ^ 32 → AreInside pages parts)
      → ActingKeeps (IsDeviceAct false is_disk_call port pages) (Taking pages k) (taken parts e)
  unfolding taken
  take parts e inside =
      keeps_either (IsDeviceAct false is_disk_call port pages) (Taking pages k)
      (is_short parts) _ _ (λ off few. tt)
      (λ on. performing_keeps (IsDeviceAct false is_disk_call port pages)
      (λ (got : Got). pages < 2 ^ 32 → AreInside pages got.parts) (Taking pages k) (collect_all 16 [] (readable parts)) e _
      (collect_acts is_disk_call port pages 16 [] (readable parts)
      (λ few. filter_inside pages (λ (part : Part). not part.writable) parts (inside few)))
      (λ f got from few. (
        filter_inside pages (λ (part : Part). part.writable) parts (inside few),
        from few,
        some_parts (length (writable parts)) (or_parts _ _ on).1,
      )))

  serve : (t : Taken) (e : BlockData) → (pages < 2 ^ 32 → IsTaken block pages k (Some t))
      → ActingKeeps (IsDeviceAct false is_disk_call port pages) (λ (len : Option ℕ). Unit {0}) (served t e)
  unfolding served
  serve t e is =
      keeps_either (IsDeviceAct false is_disk_call port pages) (λ (len : Option ℕ). Unit {0})
      (nat_lt (length t.got.bytes) 16) _ _ (λ short. tt)
      (λ whole. performing_keeps (IsDeviceAct false is_disk_call port pages) (Any {A = ℕ}) (λ (len : Option ℕ). Unit {0})
      (service (request_of t e)) e _
      (service_acts port pages (request_of t e) (λ few. (is few).0) (λ few. (is few).1)
      (λ few. status_place pages t.parts few (is few).0 (none_not (length t.parts) (is few).2)))
      (λ f used any. tt))

pub owes : Confines block (setting changed) true is_disk_call
owes = record {
  question = λ port pages e. (λ few. tt, inr (tt, tt));
  answer = λ port pages before e reply fit. tt;
  take = λ port pages k parts e inside. take port pages k parts e inside;
  serve = λ port pages k c e chain.
      serve port pages k (headed c.parts c.got) e (λ few. ((chain few).parts, (chain few).got, (chain few).taken));
  untimed = λ no. absurd (cc);
  cut = no_cut changed;
}
