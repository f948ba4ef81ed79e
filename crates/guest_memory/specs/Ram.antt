-- Where RAM is, and its pages.
use Rattle.std.specs.Prelude.{ℕ, ◌+◌, ◌-◌, ◌/◌, ◌%◌, nat_le, Bool, ◌&&◌}

abbrev pub ram_start : ℕ
ram_start = 0x80000000

abbrev pub page_size : ℕ
page_size = 4096

-- these bytes are RAM, each of them, in a memory of this size
abbrev pub is_ram : ℕ → ℕ → ℕ → Bool
is_ram size at len = nat_le ram_start at && nat_le (at - ram_start + len) size

-- the page of an address, and the offset there
abbrev pub page_number : ℕ → ℕ
page_number at = (at - ram_start) / page_size

abbrev pub page_offset : ℕ → ℕ
page_offset at = (at - ram_start) % page_size

-- how many pages so many bytes are in
abbrev pub page_count : ℕ → ℕ
page_count size = (size + page_size - 1) / page_size
