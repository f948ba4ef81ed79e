-- How the reading of all pieces begins, and what holds of each of its acts.
use Rattle.std.proofs.Common.{◌≡◌, ℕ, zero, suc, ◌^◌, ◌==◌, ◌<◌, ◌≤◌, refl, sym, ◌∙◌, false, if◌then◌else◌, inr, List, arith}
use Rattle.vm_types.specs.declared.op.Op.TheVariants.{Read}
use Rattle.device_trace.specs.Doing.{Doing, Gives, Wants, and_then}
use Rattle.device_trace.specs.Keeps.{Keeps}
use Rattle.device_trace.proofs.Keeping.{keeps_if, keeps_then}
use Rattle.vq_split.specs.declared.queue.Part.{Part}
use Rattle.vq_split.specs.Chain.{read_bytes}
use Rattle.vq_split.specs.Inside.{AreInside}
use Rattle.dev_core.specs.Inside.{Any}
use Rattle.dev_core.specs.Pieces.{past, place, room, total}
use Rattle.dev_core.proofs.Inside.{past_inside, piece_inside}
use Rattle.dev_core.proofs.Totals.{room_few, total_past}
use Rattle.dev_core.proofs.Fuel.{if_else, none_of, same_else, some_of}
use Rattle.queue_device.specs.Confined.{IsDeviceAct}
use Rattle.balloon_device.specs.Balloon.{no_call}
use Rattle.balloon_device.specs.Pieces.{read_all, read_most}

-- ---- how many pieces at most doesn't matter where they suffice

module _ {S : Type 0} (on : S → List ℕ → Doing S) where
  most_done : (most : ℕ) (s : S) (parts : List Part) → room parts ≡ 0 → read_most on most s parts ≡ Gives s
  most_done zero s parts none = refl
  most_done (suc most) s parts none = rw none refl

  fuel : (f g : ℕ) (s : S) (parts : List Part) → total parts ≤ f → total parts ≤ g → read_most on f s parts ≡ read_most on g s parts
  fuel zero g s parts a b =
      let none : room parts ≡ 0 = omega (arith, a, room_few parts) in
      sym (most_done g s parts none)
  fuel (suc f) zero s parts a b =
      let none : room parts ≡ 0 = omega (arith, b, room_few parts) in
      most_done (suc f) s parts none
  fuel (suc f) (suc g) s parts a b =
      same_else (room parts == 0) _ _ _ _ refl (λ off.
      let some = some_of (room parts) off in
      let less = total_past (room parts) parts (omega arith) in
      λ i. Wants (Read (place parts) (room parts)) (λ reply.
      and_then (on s (read_bytes (room parts) reply)) (λ t.
      fuel f g t (past (room parts) parts) (omega (arith, a, some, less)) (omega (arith, b, some, less)) i)))

  most_more : (most : ℕ) (s : S) (parts : List Part) → total parts ≤ most → 0 < room parts
      → read_most on most s parts ≡ Wants (Read (place parts) (room parts)) (λ reply.
      and_then (on s (read_bytes (room parts) reply)) (λ t. read_all on t (past (room parts) parts)))
  most_more zero s parts few some = absurd (omega (arith, few, some, room_few parts))
  most_more (suc most) s parts few some =
      let less = total_past (room parts) parts (omega arith) in
      if_else (room parts == 0) _ _ (none_of (room parts) some)
      ∙ (λ i. Wants (Read (place parts) (room parts)) (λ reply.
      and_then (on s (read_bytes (room parts) reply)) (λ t.
      fuel most (total (past (room parts) parts)) t (past (room parts) parts) (omega (arith, few, some, less)) (omega arith) i)))

  -- where no part is left it is done
  pub read_done : (s : S) (parts : List Part) → room parts ≡ 0 → read_all on s parts ≡ Gives s
  read_done s parts none = most_done (total parts) s parts none

  -- and else the next piece is read
  pub read_more : (s : S) (parts : List Part) → 0 < room parts
      → read_all on s parts ≡ Wants (Read (place parts) (room parts)) (λ reply.
      and_then (on s (read_bytes (room parts) reply)) (λ t. read_all on t (past (room parts) parts)))
  read_more s parts some = most_more (total parts) s parts (omega arith) some

  -- ---- inside RAM

  module _ (port pages : ℕ)
      (ons : (s : S) (piece : List ℕ) → Keeps (IsDeviceAct false no_call port pages) (Any {A = S}) (on s piece)) where
    most_keeps : (most : ℕ) (s : S) (parts : List Part) → (pages < 2 ^ 32 → AreInside pages parts)
        → Keeps (IsDeviceAct false no_call port pages) (Any {A = S}) (read_most on most s parts)
    most_keeps zero s parts inside = tt
    most_keeps (suc most) s parts inside =
        keeps_if (IsDeviceAct false no_call port pages) (Any {A = S}) (room parts == 0) _ _ _ refl (λ done. tt) (λ more. (
          (λ few. piece_inside pages (room parts) parts (inside few) (some_of (room parts) more) (omega arith), inr (tt, tt)),
          λ reply fit.
              keeps_then (IsDeviceAct false no_call port pages) (Any {A = S}) (Any {A = S}) (on s (read_bytes (room parts) reply)) _
              (ons s (read_bytes (room parts) reply))
              (λ t any. most_keeps most t (past (room parts) parts)
              (λ few. past_inside pages (room parts) parts few (inside few) (omega arith))),
        ))

    pub read_keeps : (s : S) (parts : List Part) → (pages < 2 ^ 32 → AreInside pages parts)
        → Keeps (IsDeviceAct false no_call port pages) (Any {A = S}) (read_all on s parts)
    read_keeps s parts inside = most_keeps (total parts) s parts inside
