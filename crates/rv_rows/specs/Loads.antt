-- Sizes of accesses, and what a load puts into its register (unprivileged manual, 2.6, 5.3, 8.2 and 8.4).
use Rattle.std.specs.Prelude.{ℕ, ◌*◌, ◌%◌, ◌^◌, Bool, true, false}
use Rattle.rv_rows.specs.declared.memory.LoadKind.{LoadKind}
use Rattle.rv_rows.specs.declared.memory.Width.{Width}
use Rattle.rv_rows.specs.Numbers.{sign_extended}

-- how many bytes each takes
abbrev pub width_bytes : Width → ℕ
width_bytes Width.Byte = 1
width_bytes Width.Half = 2
width_bytes Width.Word = 4
width_bytes Width.Double = 8

abbrev pub load_width : LoadKind → Width
load_width LoadKind.Byte = Width.Byte
load_width LoadKind.Half = Width.Half
load_width LoadKind.Word = Width.Word
load_width LoadKind.Double = Width.Double
load_width LoadKind.ByteUnsigned = Width.Byte
load_width LoadKind.HalfUnsigned = Width.Half
load_width LoadKind.WordUnsigned = Width.Word

abbrev pub load_bytes : LoadKind → ℕ
load_bytes kind = width_bytes (load_width kind)

-- the instructions of the extension A (8.1)
abbrev pub atomic_width : Bool → Width
atomic_width false = Width.Word
atomic_width true = Width.Double

abbrev pub atomic_bytes : Bool → ℕ
atomic_bytes wide = width_bytes (atomic_width wide)

-- a register's low bytes
abbrev pub low_bytes : ℕ → ℕ → ℕ
low_bytes count n = n % 2 ^ (8 * count)

-- what rd gets of a load, by the number in memory, the low byte first, of which it takes its low bytes
abbrev pub load_value : LoadKind → ℕ → ℕ
load_value LoadKind.Byte n = sign_extended 8 (low_bytes 1 n)
load_value LoadKind.Half n = sign_extended 16 (low_bytes 2 n)
load_value LoadKind.Word n = sign_extended 32 (low_bytes 4 n)
load_value LoadKind.Double n = low_bytes 8 n
load_value LoadKind.ByteUnsigned n = low_bytes 1 n
load_value LoadKind.HalfUnsigned n = low_bytes 2 n
load_value LoadKind.WordUnsigned n = low_bytes 4 n

-- and of LR or an AMO, whose sign is extended
abbrev pub atomic_load_value : Bool → ℕ → ℕ
atomic_load_value false n = load_value LoadKind.Word n
atomic_load_value true n = load_value LoadKind.Double n
