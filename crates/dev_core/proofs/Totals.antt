-- How many bytes are left behind a piece.
use Rattle.std.proofs.Common.{◌≡◌, ℕ, ◌+◌, ◌-◌, ◌%◌, ◌^◌, ◌==◌, ◌≤◌, refl, Bool, true, false, if◌then◌else◌, List, [], ◌∷◌, arith}
use Rattle.std.proofs.lemmas.Bool.{eqb-true}
use Rattle.vq_split.specs.declared.queue.Part.{Part}
use Rattle.dev_core.specs.Pieces.{past, room, total}

pub room_few : (parts : List Part) → room parts ≤ total parts
room_few [] = omega arith
room_few (part ∷ parts) = omega arith

past_if : (n : ℕ) (part : Part) (parts : List Part) (test : Bool) → (part.len == n) ≡ test → n ≤ part.len
    → total (if test then parts
    else record { at = (part.at + n) % 2 ^ 64; len = part.len - n; writable = part.writable } ∷ parts) + n
    ≡ part.len + total parts
past_if n part parts true is short = let same = eqb-true part.len n is in omega (arith, same)
past_if n part parts false is short = omega (arith, short)

pub total_past : (n : ℕ) (parts : List Part) → n ≤ room parts → total (past n parts) + n ≡ total parts
total_past n [] short = omega (arith, short)
total_past n (part ∷ parts) short = past_if n part parts (part.len == n) refl (omega (arith, short))
