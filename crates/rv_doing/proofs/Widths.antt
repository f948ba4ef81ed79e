-- A word and the bytes of a width.
use Rattle.std.proofs.Common.{◌≡◌, ℕ, ◌%◌, ◌^◌, ◌<◌, ◌≤◌, ◌==◌, List, length, sym, ap, ◌∙◌, arith}
use Rattle.std.proofs.Math.Nat.{pow-le-pow_right}
use Rattle.std.specs.List.{All}
use Rattle.le_fields.specs.Fields.{little_endian, bytes_of, IsByte}
use Rattle.le_fields.proofs.Values.{all_bytes, long, value_below, value_of_bytes, bytes_of_value}
use Rattle.rv_rows.specs.declared.memory.Width.{Width}
use Rattle.rv_rows.specs.declared.memory.LoadKind.{LoadKind}
use Rattle.rv_rows.specs.Loads.{load_bytes, load_value, width_bytes, low_bytes}
use Rattle.rv_rows.specs.Numbers.{sign_extended}

-- as many bytes as the width says
pub long_as : (width given : Width) (word : ℕ)
    → (width_bytes given == width_bytes width) ≡ (length (bytes_of (width_bytes given) word) == width_bytes width)
long_as width given word = ap (λ (n : ℕ). n == width_bytes width) (sym (long (width_bytes given) word))

-- the value of a word's bytes is what its low bytes are
pub low_is : (width : Width) (word : ℕ) → word < 2 ^ 64
    → little_endian (bytes_of (width_bytes width) word) ≡ low_bytes (width_bytes width) word
low_is Width.Byte word small = omega arith
low_is Width.Half word small = omega arith
low_is Width.Word word small = omega arith
low_is Width.Double word small =
    let is : little_endian (bytes_of 8 word) ≡ word = value_of_bytes 8 word small in
    omega (arith, is, small)

-- bytes are those of their value
pub bytes_are : (bytes : List ℕ) (word : ℕ) → All IsByte bytes → length bytes ≤ 8 → word ≡ little_endian bytes % 2 ^ 64
    → bytes_of (length bytes) word ≡ bytes
bytes_are bytes word all short is =
    let below : little_endian bytes < 256 ^ length bytes = value_below bytes all in
    let most : 256 ^ length bytes ≤ 256 ^ 8 = pow-le-pow_right (omega arith) short in
    let whole : word ≡ little_endian bytes = omega (arith, is, below, most) in
    ap (bytes_of (length bytes)) whole ∙ bytes_of_value bytes all

-- what a load takes of a word's bytes is what it takes of the word
pub loads_low : (kind : LoadKind) (word : ℕ) → word < 2 ^ 64
    → load_value kind (little_endian (bytes_of (load_bytes kind) word)) ≡ load_value kind word
loads_low LoadKind.Byte word small =
    let low : little_endian (bytes_of 1 word) % 2 ^ 8 ≡ word % 2 ^ 8 = omega arith in ap (sign_extended 8) low
loads_low LoadKind.Half word small =
    let low : little_endian (bytes_of 2 word) % 2 ^ 16 ≡ word % 2 ^ 16 = omega arith in ap (sign_extended 16) low
loads_low LoadKind.Word word small =
    let low : little_endian (bytes_of 4 word) % 2 ^ 32 ≡ word % 2 ^ 32 = omega arith in ap (sign_extended 32) low
loads_low LoadKind.Double word small =
    let is : little_endian (bytes_of 8 word) ≡ word = value_of_bytes 8 word small in ap (λ (n : ℕ). n % 2 ^ 64) is
loads_low LoadKind.ByteUnsigned word small = omega arith
loads_low LoadKind.HalfUnsigned word small = omega arith
loads_low LoadKind.WordUnsigned word small = omega arith

-- the bytes of a word's low bytes are the word's
pub stores_low : (width : Width) (word : ℕ) → word < 2 ^ 64
    → bytes_of (width_bytes width) (low_bytes (width_bytes width) word) ≡ bytes_of (width_bytes width) word
stores_low width word small =
    let count : ℕ = width_bytes width in
    let bytes : List ℕ = bytes_of count word in
    let whole : bytes_of (length bytes) (little_endian bytes) ≡ bytes = bytes_of_value bytes (all_bytes count word) in
    ap (bytes_of count) (sym (low_is width word small))
    ∙ ap (λ (n : ℕ). bytes_of n (little_endian bytes)) (sym (long count word))
    ∙ whole
