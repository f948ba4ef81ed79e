-- The fields of an instruction word, each as the manual draws it (unprivileged manual, 2.2 and 2.3).
use Rattle.std.specs.Prelude.{ℕ, ◌+◌, ◌-◌, ◌*◌, ◌/◌, ◌%◌, ◌^◌}
use Rattle.rv_rows.specs.declared.register.Register.{Register}
use Rattle.rv_rows.specs.Registers.{register_of}
pub use Rattle.rv_rows.specs.Numbers.{sign_extended}

-- inst[high:low]
abbrev pub bits : ℕ → ℕ → ℕ → ℕ
bits high low word = word / 2 ^ low % 2 ^ (high + 1 - low)

abbrev pub rd_field : ℕ → Register
rd_field word = register_of (bits 11 7 word)

abbrev pub rs1_field : ℕ → Register
rs1_field word = register_of (bits 19 15 word)

abbrev pub rs2_field : ℕ → Register
rs2_field word = register_of (bits 24 20 word)

-- the immediates (2.3, "Types of immediate produced by RISC-V instructions")
abbrev pub i_immediate : ℕ → ℕ
i_immediate word = sign_extended 12 (bits 31 20 word)

abbrev pub s_immediate : ℕ → ℕ
s_immediate word = sign_extended 12 (bits 31 25 word * 2 ^ 5 + bits 11 7 word)

abbrev pub b_immediate : ℕ → ℕ
b_immediate word =
    sign_extended 13 (bits 31 31 word * 2 ^ 12 + bits 7 7 word * 2 ^ 11 + bits 30 25 word * 2 ^ 5 + bits 11 8 word * 2)

abbrev pub u_immediate : ℕ → ℕ
u_immediate word = sign_extended 32 (bits 31 12 word * 2 ^ 12)

abbrev pub j_immediate : ℕ → ℕ
j_immediate word =
    sign_extended 21
    (bits 31 31 word * 2 ^ 20 + bits 19 12 word * 2 ^ 12 + bits 20 20 word * 2 ^ 11 + bits 30 21 word * 2)

-- the amount of a shift by an immediate (5.2), and in the word forms
abbrev pub shift_amount : ℕ → ℕ
shift_amount word = bits 25 20 word

abbrev pub word_shift_amount : ℕ → ℕ
word_shift_amount word = bits 24 20 word

-- the number of a CSR, and the immediate of a CSR instruction, which is zero-extended (9.1)
abbrev pub csr_field : ℕ → ℕ
csr_field word = bits 31 20 word

abbrev pub csr_immediate : ℕ → ℕ
csr_immediate word = bits 19 15 word
