-- What the instructions of the base compute of two numbers of 64 bits (unprivileged manual, 2.4 and 5.2).
use Rattle.std.specs.Prelude.{ℕ, ◌+◌, ◌-◌, ◌*◌, ◌/◌, ◌%◌, ◌^◌, nat_lt, int_lt, if◌then◌else◌, bit_and, bit_or, bit_xor}
use Rattle.std.specs.Int.{int_shr}
use Rattle.rv_rows.specs.declared.alu.AluOp.{AluOp}
use Rattle.rv_rows.specs.declared.alu.AluOp.TheVariants.{Add, Sub, Sll, Slt, Sltu, Xor, Srl, Sra, Or, And, Addw, Subw, Sllw, Srlw, Sraw}
use Rattle.rv_rows.specs.Numbers.{low_word, signed_64, signed_32, modulo_64, sign_extended}

-- Shifts take the low 6 bits of the second number, and 5 in the word forms. The arithmetic shift to the right divides
-- the signed value and rounds down. Word forms take the low 32 bits, and extend the sign of a result of 32 bits.
abbrev pub alu : AluOp → ℕ → ℕ → ℕ
alu Add a b = (a + b) % 2 ^ 64
alu Sub a b = (a + (2 ^ 64 - b)) % 2 ^ 64
alu Sll a b = a * 2 ^ (b % 2 ^ 6) % 2 ^ 64
alu Slt a b = if int_lt (signed_64 a) (signed_64 b) then 1 else 0
alu Sltu a b = if nat_lt a b then 1 else 0
alu Xor a b = bit_xor a b
alu Srl a b = a / 2 ^ (b % 2 ^ 6)
alu Sra a b = modulo_64 (int_shr (signed_64 a) (b % 2 ^ 6))
alu Or a b = bit_or a b
alu And a b = bit_and a b
alu Addw a b = sign_extended 32 (low_word (a + b))
alu Subw a b = sign_extended 32 (low_word (a + (2 ^ 64 - b)))
alu Sllw a b = sign_extended 32 (low_word (a * 2 ^ (b % 2 ^ 5)))
alu Srlw a b = sign_extended 32 (low_word a / 2 ^ (b % 2 ^ 5))
alu Sraw a b = modulo_64 (int_shr (signed_32 a) (b % 2 ^ 5))
