-- How the bytes of a packet go to the host, piece by piece.
use Rattle.std.proofs.Common.{◌≡◌, ℕ, zero, suc, ◌==◌, ◌<◌, ◌≤◌, refl, sym, ◌∙◌, List, arith}
use Rattle.vm_types.specs.declared.op.Op.TheVariants.{Read}
use Rattle.vq_split.specs.declared.queue.Part.{Part}
use Rattle.vq_split.specs.Chain.{read_bytes}
use Rattle.dev_core.specs.Pieces.{past, place, room, total}
use Rattle.dev_core.proofs.Totals.{room_few, total_past}
use Rattle.dev_core.proofs.Fuel.{if_else, none_of, same_else, some_of}
use Rattle.queue_device.specs.Acting.{Acts}
use Rattle.vsock_device.specs.declared.data.Vsock.{Vsock}
use Rattle.vsock_device.specs.Guest.{forwarding, forwarding_all, piece_read, taken_in}

-- ---- how many pieces at most doesn't matter where they suffice

most_done : (most host : ℕ) (parts : List Part) (e : Vsock) → room parts ≡ 0 → forwarding most host parts e ≡ taken_in e
most_done zero host parts e none = refl
most_done (suc most) host parts e none = rw none refl

fuel : (f g host : ℕ) (parts : List Part) (e : Vsock) → total parts ≤ f → total parts ≤ g
    → forwarding f host parts e ≡ forwarding g host parts e
fuel zero g host parts e a b =
    let none : room parts ≡ 0 = omega (arith, a, room_few parts) in
    sym (most_done g host parts e none)
fuel (suc f) zero host parts e a b =
    let none : room parts ≡ 0 = omega (arith, b, room_few parts) in
    most_done (suc f) host parts e none
fuel (suc f) (suc g) host parts e a b =
    same_else (room parts == 0) _ _ _ _ refl (λ off.
    let some = some_of (room parts) off in
    let less = total_past (room parts) parts (omega arith) in
    λ i. Acts e (Read (place parts) (room parts)) (λ h reply.
    piece_read host (read_bytes (room parts) reply) h (λ k.
    fuel f g host (past (room parts) parts) k (omega (arith, a, some, less)) (omega (arith, b, some, less)) i)))

most_more : (most host : ℕ) (parts : List Part) (e : Vsock) → total parts ≤ most → 0 < room parts
    → forwarding most host parts e ≡ Acts e (Read (place parts) (room parts)) (λ h reply.
    piece_read host (read_bytes (room parts) reply) h (λ k. forwarding_all host (past (room parts) parts) k))
most_more zero host parts e few some = absurd (omega (arith, few, some, room_few parts))
most_more (suc most) host parts e few some =
    let less = total_past (room parts) parts (omega arith) in
    if_else (room parts == 0) _ _ (none_of (room parts) some)
    ∙ (λ i. Acts e (Read (place parts) (room parts)) (λ h reply.
    piece_read host (read_bytes (room parts) reply) h (λ k.
    fuel most (total (past (room parts) parts)) host (past (room parts) parts) k (omega (arith, few, some, less)) (omega arith) i)))

-- where no part is left all went
pub forward_done : (host : ℕ) (parts : List Part) (e : Vsock) → room parts ≡ 0 → forwarding_all host parts e ≡ taken_in e
forward_done host parts e none = most_done (total parts) host parts e none

-- and else the next piece is read
pub forward_more : (host : ℕ) (parts : List Part) (e : Vsock) → 0 < room parts
    → forwarding_all host parts e ≡ Acts e (Read (place parts) (room parts)) (λ h reply.
    piece_read host (read_bytes (room parts) reply) h (λ k. forwarding_all host (past (room parts) parts) k))
forward_more host parts e some = most_more (total parts) host parts e (omega arith) some
