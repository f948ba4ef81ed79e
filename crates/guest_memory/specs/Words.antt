-- Words in memory, the lowest byte first (unprivileged manual, 1.4), as atomic accesses have them: of 8 bytes
-- where they are wide, else of 4 (8.2 and 8.4).
use Rattle.std.specs.Prelude.{ℕ, Bool, true, false, List, take}
use Rattle.std.specs.Int.{w32, w64, from_le_bytes, to_le_bytes}

-- how many bytes an atomic access has
abbrev pub width_of : Bool → ℕ
width_of true = 8
width_of false = 4

-- the number that its bytes are
abbrev pub word_of : Bool → List ℕ → ℕ
word_of true bytes = from_le_bytes w64 bytes
word_of false bytes = from_le_bytes w32 bytes

-- the low bytes of a number, as many as it has
abbrev pub word_bytes : Bool → ℕ → List ℕ
word_bytes wide value = take (width_of wide) (to_le_bytes w64 value)
