-- The bytes of a chain's parts, read piece by piece, where each piece may lead to acts before the next one is read.
use Rattle.std.specs.Prelude.{ℕ, zero, suc, ◌==◌, if◌then◌else◌, List}
use Rattle.vm_types.specs.declared.op.Op.TheVariants.{Read}
use Rattle.device_trace.specs.Doing.{Doing, Gives, Wants, and_then}
use Rattle.vq_split.specs.declared.queue.Part.{Part}
use Rattle.vq_split.specs.Chain.{read_bytes}
use Rattle.dev_core.specs.Pieces.{past, place, room, total}

-- what was made of the pieces before is led on by the next one; at most `most` pieces
abbrev pub read_most : {S : Type 0} → (S → List ℕ → Doing S) → ℕ → S → List Part → Doing S
read_most on zero s parts = Gives s
read_most on (suc most) s parts =
    if room parts == 0 then Gives s
    else Wants (Read (place parts) (room parts)) (λ reply.
    and_then (on s (read_bytes (room parts) reply)) (λ t. read_most on most t (past (room parts) parts)))

-- there are no more pieces than bytes
abbrev pub read_all : {S : Type 0} → (S → List ℕ → Doing S) → S → List Part → Doing S
read_all on s parts = read_most on (total parts) s parts
