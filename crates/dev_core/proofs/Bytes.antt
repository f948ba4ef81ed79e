-- A piece is the next bytes of the parts, and what is left of them are the others.
use Rattle.std.proofs.Common.{◌≡◌, ℕ, zero, suc, ◌+◌, ◌-◌, ◌%◌, ◌^◌, ◌==◌, ◌<◌, ◌≤◌, refl, sym, ap, ◌∙◌, Bool, true, false, if◌then◌else◌, List, [], ◌∷◌, ◌++◌, append_assoc, arith}
use Rattle.std.proofs.lemmas.Bool.{eqb-true}
use Rattle.vq_split.specs.declared.queue.Part.{Part}
use Rattle.dev_core.specs.Bytes.{addresses, addresses_from, AreParts}
use Rattle.dev_core.specs.Pieces.{past, place, room}

split : (at n m : ℕ) → addresses_from at (n + m) ≡ addresses_from at n ++ addresses_from (at + n) m
split at zero m =
    let all : zero + m ≡ m = omega arith in
    let start : at + zero ≡ at = omega arith in
    rw (all, start) refl
split at (suc n) m =
    let all : suc n + m ≡ suc (n + m) = omega arith in
    let start : at + suc n ≡ suc at + n = omega arith in
    rw (all, start) (ap (λ (xs : List ℕ). at ∷ xs) (split (suc at) n m))

apart : (n m : ℕ) → (n == m) ≡ false → n ≡ m → ⊥
apart n m off = grind arith

-- the part less its first n bytes
abbrev rest_of : ℕ → Part → Part
rest_of n part = record { at = (part.at + n) % 2 ^ 64; len = part.len - n; writable = part.writable }

piece_if : (n : ℕ) (part : Part) (parts : List Part) (test : Bool) → (part.len == n) ≡ test → AreParts (part ∷ parts)
    → n ≤ part.len
    → addresses (part ∷ parts) ≡ addresses_from part.at n ++ addresses (if test then parts else rest_of n part ∷ parts)
piece_if n part parts true is are short =
    ap (λ (m : ℕ). addresses_from part.at m ++ addresses parts) (eqb-true part.len n is)
piece_if n part parts false is are short =
    let whole : part.len ≡ n + (part.len - n) = omega (arith, short) in
    let some : n < part.len = omega (arith, short, apart part.len n is) in
    let moved : (part.at + n) % 2 ^ 64 ≡ part.at + n = omega (arith, are.1, some) in
    ap (λ (m : ℕ). addresses_from part.at m ++ addresses parts) whole
    ∙ ap (λ (xs : List ℕ). xs ++ addresses parts) (split part.at n (part.len - n))
    ∙ append_assoc (addresses_from part.at n) (addresses_from (part.at + n) (part.len - n)) (addresses parts)
    ∙ ap (λ (a : ℕ). addresses_from part.at n ++ (addresses_from a (part.len - n) ++ addresses parts)) (sym moved)

pub piece : (parts : List Part) (n : ℕ) → AreParts parts → n ≤ room parts
    → addresses parts ≡ addresses_from (place parts) n ++ addresses (past n parts)
piece [] n are short =
    let none : n ≡ 0 = omega (arith, short) in
    rw none refl
piece (part ∷ parts) n are short = piece_if n part parts (part.len == n) refl are (omega (arith, short))

rest_if : (n : ℕ) (part : Part) (parts : List Part) (test : Bool) → (part.len == n) ≡ test → AreParts (part ∷ parts)
    → n ≤ part.len → AreParts (if test then parts else rest_of n part ∷ parts)
rest_if n part parts true is are short = are.2
rest_if n part parts false is are short =
    let some : n < part.len = omega (arith, short, apart part.len n is) in
    (omega (arith, some), omega (arith, are.1, some), are.2)

pub rest : (parts : List Part) (n : ℕ) → AreParts parts → n ≤ room parts → AreParts (past n parts)
rest [] n are short = tt
rest (part ∷ parts) n are short = rest_if n part parts (part.len == n) refl are (omega (arith, short))

pub end : (parts : List Part) → AreParts parts → room parts ≡ 0 → parts ≡ []
end [] are none = refl
end (part ∷ parts) are none = absurd (omega (arith, are.0, none))

pub most : (parts : List Part) → room parts ≤ 64
most [] = omega arith
most (part ∷ parts) = omega arith

pub page : (parts : List Part) → place parts % 4096 + room parts ≤ 4096
page [] = omega arith
page (part ∷ parts) = omega arith
