-- What the instructions of the extension M compute of two numbers of 64 bits (unprivileged manual, chapter 7).
use Rattle.std.specs.Prelude.{ℕ, ◌-◌, ◌*◌, ◌/◌, ◌%◌, ◌^◌, ◌==◌, if◌then◌else◌, pos, ◌*ℤ◌, int_div, int_rem}
use Rattle.std.specs.Int.{int_shr}
use Rattle.rv_rows.specs.declared.alu.MulDivOp.{MulDivOp}
use Rattle.rv_rows.specs.declared.alu.MulDivOp.TheVariants.{Mul, Mulh, Mulhsu, Mulhu, Div, Divu, Rem, Remu, Mulw, Divw, Divuw, Remw, Remuw}
use Rattle.rv_rows.specs.Numbers.{low_word, signed_64, signed_32, modulo_64, modulo_32, sign_extended}

-- the quotient of a division by zero, which has all bits set (7.2, "Semantics for division by zero and division
-- overflow")
abbrev pub all_ones : ℕ
all_ones = 2 ^ 64 - 1

-- Signed division rounds towards zero, and the remainder has the dividend's sign. Where it overflows, as -2 ^ 63
-- divided by -1, the quotient 2 ^ 63 modulo 2 ^ 64 is the dividend, and the remainder 0. The remainder of a division
-- by zero is the dividend.
abbrev pub muldiv : MulDivOp → ℕ → ℕ → ℕ
muldiv Mul a b = a * b % 2 ^ 64
muldiv Mulh a b = modulo_64 (int_shr (signed_64 a *ℤ signed_64 b) 64)
muldiv Mulhsu a b = modulo_64 (int_shr (signed_64 a *ℤ pos b) 64)
muldiv Mulhu a b = a * b / 2 ^ 64
muldiv Div a b = if b == 0 then all_ones else modulo_64 (int_div (signed_64 a) (signed_64 b))
muldiv Divu a b = if b == 0 then all_ones else a / b
muldiv Rem a b = if b == 0 then a else modulo_64 (int_rem (signed_64 a) (signed_64 b))
muldiv Remu a b = if b == 0 then a else a % b
muldiv Mulw a b = sign_extended 32 (low_word (a * b))
muldiv Divw a b =
    if low_word b == 0 then all_ones else sign_extended 32 (modulo_32 (int_div (signed_32 a) (signed_32 b)))
muldiv Divuw a b = if low_word b == 0 then all_ones else sign_extended 32 (low_word a / low_word b)
muldiv Remw a b =
    sign_extended 32 (if low_word b == 0 then low_word a else modulo_32 (int_rem (signed_32 a) (signed_32 b)))
muldiv Remuw a b = sign_extended 32 (if low_word b == 0 then low_word a else low_word a % low_word b)
