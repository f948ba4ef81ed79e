-- Pieces that a kind reads and writes are acts of its own, and inside RAM where its parts are.
use Rattle.std.proofs.Common.{ℕ, ◌^◌, ◌<◌, Bool, false, inr, List}
use Rattle.vm_types.specs.declared.op.Op.TheVariants.{Read, Write}
use Rattle.vm_types.specs.declared.op.OutOp.{OutOp}
use Rattle.device_trace.specs.Acts.{IsAskedBy}
use Rattle.device_trace.specs.Doing.{Doing}
use Rattle.device_trace.specs.Keeps.{Keeps}
use Rattle.device_trace.proofs.Keeping.{keeps_both, keeps_more}
use Rattle.vq_split.specs.declared.queue.Part.{Part}
use Rattle.vq_split.specs.Inside.{AreInside, IsInside}
use Rattle.dev_core.specs.Inside.{Any}
use Rattle.dev_core.specs.Pieces.{Got, collect_all, put_all}
use Rattle.dev_core.proofs.Asking.{collect_all_asks, put_all_asks}
use Rattle.dev_core.proofs.Inside.{collect_all_keeps, put_all_keeps}
use Rattle.queue_device.specs.Confined.{IsDeviceAct}
use Rattle.queue_device.proofs.Acting.{keeps_when}

module _ (calls : OutOp → Bool) (port pages : ℕ) where
  -- where these lie, in a guest of fewer than 2^32 pages
  abbrev pub Lie : List Part → Type 0
  Lie parts = pages < 2 ^ 32 → AreInside pages parts

  reads : (at len : ℕ) → IsAskedBy false calls port (Read at len)
  reads at len = inr (tt, tt)

  writes : (at : ℕ) (piece : List ℕ) → IsAskedBy false calls port (Write at piece)
  writes at piece = inr (tt, tt)

  acts : {A : Type 0} (Q : A → Type 0) (t : Doing A) → (pages < 2 ^ 32 → Keeps (IsInside pages) Q t)
      → Keeps (IsAskedBy false calls port) (Any {A = A}) t
      → Keeps (IsDeviceAct false calls port pages) (λ a. pages < 2 ^ 32 → Q a) t
  acts Q t inside asks =
      keeps_more (IsDeviceAct false calls port pages) (λ a. (pages < 2 ^ 32 → Q a) × Any a) (λ a. pages < 2 ^ 32 → Q a) t
      (keeps_both (λ op. pages < 2 ^ 32 → IsInside pages op) (IsAskedBy false calls port) (λ a. pages < 2 ^ 32 → Q a) Any t
      (keeps_when (pages < 2 ^ 32) (IsInside pages) Q t inside) asks)
      (λ a both. both.0)

  pub collect_acts : (missing : ℕ) (held : List ℕ) (parts : List Part) → Lie parts
      → Keeps (IsDeviceAct false calls port pages) (λ (got : Got). Lie got.parts) (collect_all missing held parts)
  collect_acts missing held parts inside =
      acts (λ (got : Got). AreInside pages got.parts) (collect_all missing held parts)
      (λ few. collect_all_keeps pages missing held parts few (inside few))
      (collect_all_asks (IsAskedBy false calls port) reads missing held parts)

  pub put_acts : (bytes : List ℕ) (parts : List Part) → Lie parts
      → Keeps (IsDeviceAct false calls port pages) (λ (left : List Part). Lie left) (put_all bytes parts)
  put_acts bytes parts inside =
      acts (λ (left : List Part). AreInside pages left) (put_all bytes parts)
      (λ few. put_all_keeps pages bytes parts few (inside few))
      (put_all_asks (IsAskedBy false calls port) writes bytes parts)
