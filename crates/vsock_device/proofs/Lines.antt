-- The number that digits write, and slices of a line.
use Rattle.std.proofs.Common.{◌≡◌, ℕ, ◌+◌, ◌-◌, ◌*◌, ◌^◌, ◌≤◌, nat_lt, Some, None, if◌then◌else◌, List, [], ◌∷◌, length, take, drop, fold, arith, length-drop}
use Rattle.std.proofs.lemmas.List.{take_all}
use Rattle.script_words.specs.Numbers.{value_of}

pub tail_slice : (at : ℕ) (bytes : List ℕ) → take (length bytes - at) (drop at bytes) ≡ drop at bytes
tail_slice at bytes = take_all _ _ (omega (arith, length-drop at bytes))

-- further digits make it no smaller
pub grows : (digits : List ℕ) (value : ℕ) → value ≤ fold (λ value c. 10 * value + (c - 48)) value digits
grows [] value = omega arith
grows (c ∷ digits) value = omega (arith, grows digits (10 * value + (c - 48)))

too_large : (n : ℕ) → 2 ^ 32 ≤ n → None ≡ (if nat_lt n (2 ^ 32) then Some n else None)
too_large n is = grind arith

-- so it is known to be too large once it is
pub none_written : (all rest : List ℕ) (value : ℕ) → value_of all ≡ fold (λ value c. 10 * value + (c - 48)) value rest
    → 2 ^ 32 ≤ value → None ≡ (if nat_lt (value_of all) (2 ^ 32) then Some (value_of all) else None)
none_written all rest value is large = too_large (value_of all) (omega (arith, is, large, grows rest value))
