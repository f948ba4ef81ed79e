-- Numbers of 64 and 32 bits, and the integers that they stand for in two's complement.
use Rattle.std.specs.Prelude.{ℕ, ◌+◌, ◌-◌, ◌%◌, ◌^◌, nat_lt, if◌then◌else◌, ℤ, pos, unsigned_abs}
use Rattle.std.specs.Int.{cast_signed, int_rem_euclid, w32, w64}

-- the low 32 bits
abbrev pub low_word : ℕ → ℕ
low_word n = n % 2 ^ 32

-- the signed value of a number of 64 bits: itself below 2 ^ 63, else less 2 ^ 64
abbrev pub signed_64 : ℕ → ℤ
signed_64 n = cast_signed w64 n

-- the signed value of a number's low 32 bits
abbrev pub signed_32 : ℕ → ℤ
signed_32 n = cast_signed w32 (low_word n)

-- an integer modulo 2 ^ 64
abbrev pub modulo_64 : ℤ → ℕ
modulo_64 z = unsigned_abs (int_rem_euclid z (pos (2 ^ 64)))

-- an integer modulo 2 ^ 32
abbrev pub modulo_32 : ℤ → ℕ
modulo_32 z = unsigned_abs (int_rem_euclid z (pos (2 ^ 32)))

-- a number of some bits, its sign extended to 64 bits
abbrev pub sign_extended : ℕ → ℕ → ℕ
sign_extended width n = if nat_lt n (2 ^ (width - 1)) then n else n + (2 ^ 64 - 2 ^ width)
