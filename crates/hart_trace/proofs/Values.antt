-- What instructions compute of numbers of 64 bits is a number of 64 bits.
use Rattle.std.proofs.Common.{◌<◌, ◌≤◌, ℕ, ◌+◌, ◌-◌, ◌*◌, ◌/◌, ◌%◌, ◌^◌, ◌==◌, Bool, true, false, nat_lt, if◌then◌else◌, arith}
use Rattle.std.specs.Prelude.{ℤ, pos, negsuc, ◌*ℤ◌, int_lt, int_div, int_rem}
use Rattle.std.specs.Int.{int_shr}
use Rattle.std.specs.Int.Bits.{and_lt}
use Rattle.std.proofs.Math.Nat.{div-le_self, mod-le}
use Rattle.std.proofs.lemmas.Nat.{or_lt, xor_lt, div_below}
use Rattle.rv_rows.specs.declared.alu.AluOp.{AluOp}
use Rattle.rv_rows.specs.declared.alu.AluOp.TheVariants as alu_op
use Rattle.rv_rows.specs.declared.alu.MulDivOp.{MulDivOp}
use Rattle.rv_rows.specs.declared.alu.MulDivOp.TheVariants as muldiv_op
use Rattle.rv_rows.specs.declared.memory.LoadKind.{LoadKind}
use Rattle.rv_rows.specs.Numbers.{low_word, signed_64, signed_32, modulo_64, modulo_32, sign_extended}
use Rattle.rv_rows.specs.Alu.{alu}
use Rattle.rv_rows.specs.MulDiv.{all_ones, muldiv}
use Rattle.rv_rows.specs.Loads.{load_value, atomic_load_value}

either : (most : ℕ) (b : Bool) (x y : ℕ) → x < most → y < most → (if b then x else y) < most
either most true x y first second = first
either most false x y first second = second

modulo_small : (z : ℤ) → modulo_64 z < 2 ^ 64
modulo_small (pos n) = omega arith
modulo_small (negsuc n) = omega arith

modulo_word : (z : ℤ) → modulo_32 z < 2 ^ 32
modulo_word (pos n) = omega arith
modulo_word (negsuc n) = omega arith

pub extended : (width n : ℕ) → 2 ^ width ≤ 2 ^ 64 → n < 2 ^ width → sign_extended width n < 2 ^ 64
extended width n wide small =
    either (2 ^ 64) (nat_lt n (2 ^ (width - 1))) n (n + (2 ^ 64 - 2 ^ width)) (omega (arith, wide, small)) (omega (arith, wide, small))

word_extended : (n : ℕ) → n < 2 ^ 32 → sign_extended 32 n < 2 ^ 64
word_extended n small = extended 32 n (omega arith) small

quotient : (most a b : ℕ) → a < most → a / b < most
quotient most a b small = omega (arith, div-le_self a b, small)

rest : (most a b : ℕ) → a < most → a % b < most
rest most a b small = omega (arith, mod-le a b, small)

pub alu_small : (op : AluOp) (a b : ℕ) → a < 2 ^ 64 → b < 2 ^ 64 → alu op a b < 2 ^ 64
alu_small alu_op.Add a b first second = omega arith
alu_small alu_op.Sub a b first second = omega arith
alu_small alu_op.Sll a b first second = omega arith
alu_small alu_op.Slt a b first second =
    either (2 ^ 64) (int_lt (signed_64 a) (signed_64 b)) 1 0 (omega arith) (omega arith)
alu_small alu_op.Sltu a b first second = either (2 ^ 64) (nat_lt a b) 1 0 (omega arith) (omega arith)
alu_small alu_op.Xor a b first second = xor_lt 64 a b first second
alu_small alu_op.Srl a b first second = quotient (2 ^ 64) a (2 ^ (b % 2 ^ 6)) first
alu_small alu_op.Sra a b first second = modulo_small (int_shr (signed_64 a) (b % 2 ^ 6))
alu_small alu_op.Or a b first second = or_lt 64 a b first second
alu_small alu_op.And a b first second = and_lt 64 a b first second
alu_small alu_op.Addw a b first second = word_extended (low_word (a + b)) (omega arith)
alu_small alu_op.Subw a b first second = word_extended (low_word (a + (2 ^ 64 - b))) (omega arith)
alu_small alu_op.Sllw a b first second = word_extended (low_word (a * 2 ^ (b % 2 ^ 5))) (omega arith)
alu_small alu_op.Srlw a b first second =
    let low : low_word a < 2 ^ 32 = omega arith in
    word_extended (low_word a / 2 ^ (b % 2 ^ 5)) (quotient (2 ^ 32) (low_word a) (2 ^ (b % 2 ^ 5)) low)
alu_small alu_op.Sraw a b first second = modulo_small (int_shr (signed_32 a) (b % 2 ^ 5))

high_small : (a b : ℕ) → a < 2 ^ 64 → b < 2 ^ 64 → a * b / 2 ^ 64 < 2 ^ 64
high_small a b first second = div_below (a * b) (2 ^ 64) (2 ^ 64) (omega arith) (grind (arith, first, second))

low_small : (n : ℕ) → low_word n < 2 ^ 32
low_small n = omega arith

pub muldiv_small : (op : MulDivOp) (a b : ℕ) → a < 2 ^ 64 → b < 2 ^ 64 → muldiv op a b < 2 ^ 64
muldiv_small muldiv_op.Mul a b first second = omega arith
muldiv_small muldiv_op.Mulh a b first second = modulo_small (int_shr (signed_64 a *ℤ signed_64 b) 64)
muldiv_small muldiv_op.Mulhsu a b first second = modulo_small (int_shr (signed_64 a *ℤ pos b) 64)
muldiv_small muldiv_op.Mulhu a b first second = high_small a b first second
muldiv_small muldiv_op.Div a b first second =
    either (2 ^ 64) (b == 0) all_ones (modulo_64 (int_div (signed_64 a) (signed_64 b))) (omega arith) (modulo_small _)
muldiv_small muldiv_op.Divu a b first second = either (2 ^ 64) (b == 0) all_ones (a / b) (omega arith) (quotient (2 ^ 64) a b first)
muldiv_small muldiv_op.Rem a b first second =
    either (2 ^ 64) (b == 0) a (modulo_64 (int_rem (signed_64 a) (signed_64 b))) first (modulo_small _)
muldiv_small muldiv_op.Remu a b first second = either (2 ^ 64) (b == 0) a (a % b) first (rest (2 ^ 64) a b first)
muldiv_small muldiv_op.Mulw a b first second = word_extended (low_word (a * b)) (low_small (a * b))
muldiv_small muldiv_op.Divw a b first second =
    either (2 ^ 64) (low_word b == 0) all_ones (sign_extended 32 (modulo_32 (int_div (signed_32 a) (signed_32 b)))) (omega arith)
    (word_extended (modulo_32 (int_div (signed_32 a) (signed_32 b))) (modulo_word _))
muldiv_small muldiv_op.Divuw a b first second =
    either (2 ^ 64) (low_word b == 0) all_ones (sign_extended 32 (low_word a / low_word b)) (omega arith)
    (word_extended (low_word a / low_word b) (quotient (2 ^ 32) (low_word a) (low_word b) (low_small a)))
muldiv_small muldiv_op.Remw a b first second =
    word_extended _ (either (2 ^ 32) (low_word b == 0) (low_word a) (modulo_32 (int_rem (signed_32 a) (signed_32 b))) (low_small a) (modulo_word _))
muldiv_small muldiv_op.Remuw a b first second =
    word_extended _ (either (2 ^ 32) (low_word b == 0) (low_word a) (low_word a % low_word b) (low_small a)
    (rest (2 ^ 32) (low_word a) (low_word b) (low_small a)))

pub load_small : (kind : LoadKind) (n : ℕ) → load_value kind n < 2 ^ 64
load_small LoadKind.Byte n = extended 8 (n % 2 ^ 8) (omega arith) (omega arith)
load_small LoadKind.Half n = extended 16 (n % 2 ^ 16) (omega arith) (omega arith)
load_small LoadKind.Word n = extended 32 (n % 2 ^ 32) (omega arith) (omega arith)
load_small LoadKind.Double n = omega arith
load_small LoadKind.ByteUnsigned n = omega arith
load_small LoadKind.HalfUnsigned n = omega arith
load_small LoadKind.WordUnsigned n = omega arith

pub atomic_small : (wide : Bool) (n : ℕ) → atomic_load_value wide n < 2 ^ 64
atomic_small false n = load_small LoadKind.Word n
atomic_small true n = load_small LoadKind.Double n
