-- The board's registers in the address space of the guest: 4,096 bytes, of which each register is an aligned word of
-- 32 bits. The first shows which interrupt lines are pending, and from 0x100 on each hart has a word of the lines that
-- it takes. There are 16 lines.
use Rattle.std.specs.Prelude.{ℕ, ◌+◌, ◌-◌, ◌/◌, ◌%◌, ◌^◌, ◌==◌, nat_le, Bool, ◌&&◌, if◌then◌else◌, List, length, replicate, bit_and, slice_index, slice_set}
use Rattle.std.specs.Int.{bit_not, w16}
use Rattle.le_fields.specs.Fields.{bytes_of, little_endian}
use Rattle.board_table.specs.Board.{Board}

abbrev pub window_start : ℕ
window_start = 0x2000000

abbrev pub window_size : ℕ
window_size = 4096

-- these bytes are the board's, each of them
abbrev pub is_window : ℕ → ℕ → Bool
is_window at len = nat_le window_start at && nat_le (at - window_start + len) window_size

-- a word of 32 bits at a multiple of 4
abbrev pub is_register : ℕ → ℕ → Bool
is_register at len = (len == 4) && (at % 4 == 0)

-- where the words of the harts begin, and the number of the hart whose word is at an offset
abbrev pub enables_start : ℕ
enables_start = 0x100

abbrev pub hart_at : ℕ → ℕ
hart_at offset = (offset - enables_start) / 4

-- what a register shows; there is none behind that of the last hart
abbrev pub register_value : Board → ℕ → ℕ
register_value b offset =
    if offset == 0 then b.pending
    else if nat_le enables_start offset then slice_index b.enables (hart_at offset) else 0

-- a 1 that is written to a pending line clears it
abbrev pub register_after : Board → ℕ → ℕ → Board
register_after b offset value =
    if offset == 0 then record b { pending = bit_and b.pending (bit_not w16 (value % 2 ^ 16)) }
    else if nat_le enables_start offset then record b {
      enables = slice_set b.enables (hart_at offset) (value % 2 ^ 16);
    }
    else b

-- all else reads 0, and ignores what is written
abbrev pub window_bytes : Board → ℕ → ℕ → List ℕ
window_bytes b at len =
    if is_register at len then bytes_of 4 (register_value b (at - window_start)) else replicate len 0

abbrev pub window_after : Board → ℕ → List ℕ → Board
window_after b at piece =
    if is_register at (length piece) then register_after b (at - window_start) (little_endian piece) else b
