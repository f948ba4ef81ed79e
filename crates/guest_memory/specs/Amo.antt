-- What an atomic memory operation stores (unprivileged manual, 8.4).
use Rattle.std.specs.Prelude.{ℕ, ◌+◌, ◌*◌, ◌%◌, ◌^◌, Bool, true, false, nat_lt, int_lt, if◌then◌else◌, bit_and, bit_or, bit_xor}
use Rattle.std.specs.Int.{Width, w32, w64, byte_len, cast_signed}
use Rattle.vm_types.specs.declared.op.AmoKind.{AmoKind}
use Rattle.vm_types.specs.declared.op.AmoKind.TheVariants.{Swap, Add, Xor, And, Or, Min, Max, MinUnsigned, MaxUnsigned}

-- at one width, by the number that was there and the one that is given, both of that width
abbrev pub amo_at : Width → AmoKind → ℕ → ℕ → ℕ
amo_at w Swap old value = value
amo_at w Add old value = (old + value) % 2 ^ (8 * byte_len w)
amo_at w Xor old value = bit_xor old value
amo_at w And old value = bit_and old value
amo_at w Or old value = bit_or old value
amo_at w Min old value = if int_lt (cast_signed w old) (cast_signed w value) then old else value
amo_at w Max old value = if int_lt (cast_signed w old) (cast_signed w value) then value else old
amo_at w MinUnsigned old value = if nat_lt old value then old else value
amo_at w MaxUnsigned old value = if nat_lt old value then value else old

-- at 8 bytes or at 4, where the low 32 bits count
abbrev pub amo_value : AmoKind → Bool → ℕ → ℕ → ℕ
amo_value kind true old value = amo_at w64 kind old value
amo_value kind false old value = amo_at w32 kind (old % 2 ^ 32) (value % 2 ^ 32)
