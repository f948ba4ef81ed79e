-- Where ports are in the address space of the guest: 4,096 bytes for each device by its number, one behind the other.
use Rattle.std.specs.Prelude.{ℕ, ◌+◌, ◌-◌, ◌/◌, ◌%◌, nat_le, nat_lt, Bool, ◌&&◌, if◌then◌else◌, Option, Some, None}

abbrev pub ports_start : ℕ
ports_start = 0x10000000

abbrev pub port_size : ℕ
port_size = 4096

-- as many as the board has lines
abbrev pub most_ports : ℕ
most_ports = 16

-- the number of the port that an address is in, from the start of the first one on
abbrev pub port_number : ℕ → ℕ
port_number at = (at - ports_start) / port_size

-- how far behind the start of its port an address is
abbrev pub port_offset : ℕ → ℕ
port_offset at = at % port_size

-- these bytes end with their port at the latest
abbrev pub is_in_one : ℕ → ℕ → Bool
is_in_one at len = nat_le (port_offset at + len) port_size

-- the port that has all of these bytes, one at least
abbrev pub port_at : ℕ → ℕ → Option ℕ
port_at at len =
    if nat_le 1 len && nat_le ports_start at && nat_lt (port_number at) most_ports && is_in_one at len
    then Some (port_number at) else None
