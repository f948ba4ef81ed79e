-- How a frame goes on from piece to piece.
use Rattle.std.proofs.Common.{◌≡◌, ℕ, zero, suc, ◌-◌, ◌==◌, ◌<◌, Bool, true, false, if◌then◌else◌, List, drop, refl, sym, ap, ◌∙◌, arith}
use Rattle.std.proofs.lemmas.Bool.{eq-eqb}
use Rattle.vm_types.specs.declared.op.Op.TheVariants.{Read, Out}
use Rattle.vm_types.specs.declared.op.OutOp.TheVariants.{LinkEnd}
use Rattle.device_trace.specs.Doing.{Doing, Gives, Wants}
use Rattle.vq_split.specs.declared.queue.Part.{Part}
use Rattle.vq_split.specs.Chain.{read_bytes}
use Rattle.dev_core.specs.Pieces.{past, place, room, total}
use Rattle.dev_core.proofs.Totals.{total_past}
use Rattle.dev_core.proofs.Fuel.{none_of, some_of}
use Rattle.net_device.specs.Frames.{piece_sent, sending, sending_all}

-- ---- a frame that is sent

abbrev ended : Doing (Unit {0})
ended = Wants (Out LinkEnd) (λ reply. Gives tt)

-- the next piece, and so many at most behind it
abbrev piece_read : ℕ → ℕ → List Part → Doing (Unit {0})
piece_read most skip parts =
    Wants (Read (place parts) (room parts)) (λ reply.
    piece_sent (drop skip (read_bytes (room parts) reply)) (sending most (skip - room parts) (past (room parts) parts)))

piece_alike : (f g skip : ℕ) (parts : List Part)
    → sending f (skip - room parts) (past (room parts) parts) ≡ sending g (skip - room parts) (past (room parts) parts)
    → piece_read f skip parts ≡ piece_read g skip parts
piece_alike f g skip parts same =
    λ i. Wants (Read (place parts) (room parts)) (λ reply. piece_sent (drop skip (read_bytes (room parts) reply)) (same i))

by_room : (f g skip : ℕ) (parts : List Part) (is_end : Bool) → (room parts == 0) ≡ is_end
    → (0 < room parts → sending f (skip - room parts) (past (room parts) parts) ≡ sending g (skip - room parts) (past (room parts) parts))
    → sending (suc f) skip parts ≡ sending (suc g) skip parts
by_room f g skip parts true is again =
    ap (λ (t : Bool). if t then ended else piece_read f skip parts) is
    ∙ sym (ap (λ (t : Bool). if t then ended else piece_read g skip parts) is)
by_room f g skip parts false is again =
    ap (λ (t : Bool). if t then ended else piece_read f skip parts) is
    ∙ piece_alike f g skip parts (again (some_of (room parts) is))
    ∙ sym (ap (λ (t : Bool). if t then ended else piece_read g skip parts) is)

-- as many as there are bytes are enough
enough : (f g skip : ℕ) (parts : List Part) → total parts < f → total parts < g → sending f skip parts ≡ sending g skip parts
enough zero g skip parts a b = absurd (omega (arith, a))
enough (suc f) zero skip parts a b = absurd (omega (arith, b))
enough (suc f) (suc g) skip parts a b =
    by_room f g skip parts (room parts == 0) refl (λ there.
    enough f g (skip - room parts) (past (room parts) parts) (omega (arith, a, there, total_past (room parts) parts (omega arith)))
    (omega (arith, b, there, total_past (room parts) parts (omega arith))))

pub sent_end : (skip : ℕ) (parts : List Part) → room parts ≡ 0 → sending_all skip parts ≡ ended
sent_end skip parts is =
    ap (λ (t : Bool). if t then ended else piece_read (total parts) skip parts) (eq-eqb (room parts) 0 is)

pub sent_more : (skip : ℕ) (parts : List Part) → 0 < room parts
    → sending_all skip parts ≡ Wants (Read (place parts) (room parts)) (λ reply.
    piece_sent (drop skip (read_bytes (room parts) reply)) (sending_all (skip - room parts) (past (room parts) parts)))
sent_more skip parts there =
    ap (λ (t : Bool). if t then ended else piece_read (total parts) skip parts) (none_of (room parts) there)
    ∙ piece_alike (total parts) (suc (total (past (room parts) parts))) skip parts
    (enough (total parts) (suc (total (past (room parts) parts))) (skip - room parts) (past (room parts) parts)
    (omega (arith, there, total_past (room parts) parts (omega arith))) (omega arith))
