-- A decimal number, digit by digit, cut at a limit.
use Rattle.std.proofs.Common.{◌≡◌, ℕ, ◌+◌, ◌-◌, ◌*◌, ◌≤◌, min, arith}
use Rattle.std.specs.Char.{digit_value}
use Rattle.std.proofs.lemmas.Bool.Decides.{nat_tests}

pub digit_value_is : (c : ℕ) → 48 ≤ c → c ≤ 57 → digit_value c ≡ c - 48
digit_value_is c low high = grind (arith, nat_tests)

-- the value so far after one more digit
pub cut_more : (v w d n limit : ℕ) → v ≡ min w limit → n ≡ w * 10 + d → min (v * 10 + d) limit ≡ min n limit
cut_more v w d n limit e f = omega arith
