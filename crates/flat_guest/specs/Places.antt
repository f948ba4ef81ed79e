-- Where an op acts: on a page of RAM, on a device's port, on the board, or nowhere in the machine.
use Rattle.std.specs.Prelude.{ℕ, nat_le, nat_lt, Bool, true, false, ◌&&◌, if◌then◌else◌, Option, Some, None, length}
use Rattle.vm_types.specs.declared.ids.PlaceId.{PlaceId}
use Rattle.vm_types.specs.declared.op.Op.{Op}
use Rattle.guest_memory.specs.Route.{access_place}
use Rattle.guest_memory.specs.Words.{width_of}
use Rattle.board_table.specs.Window.{is_window}
use Rattle.port_table.specs.Window.{port_at}
use Rattle.flat_guest.specs.declared.places.Layout.{Layout}

-- the place of an act on a port, which is there or not
abbrev pub port_place : ℕ → ℕ → PlaceId
port_place ports port = if nat_lt port ports then PlaceId.Port port else PlaceId.Out

-- these bytes, one at least, are the board's registers
abbrev pub are_registers : ℕ → ℕ → Bool
are_registers at len = nat_le 1 len && is_window at len

-- an access to them
abbrev pub is_register_access : Op → Bool
is_register_access (Op.Read at len) = are_registers at len
is_register_access (Op.Write at piece) = are_registers at (length piece)
is_register_access (Op.Amo at value kind wide) = are_registers at (width_of wide)
is_register_access (Op.Lr at wide) = are_registers at (width_of wide)
is_register_access (Op.Sc at value wide) = are_registers at (width_of wide)
is_register_access op = false

-- the port that has all bytes of an access, whether it is there or not
abbrev pub port_accessed : Op → Option ℕ
port_accessed (Op.Read at len) = port_at at len
port_accessed (Op.Write at piece) = port_at at (length piece)
port_accessed (Op.Amo at value kind wide) = port_at at (width_of wide)
port_accessed (Op.Lr at wide) = port_at at (width_of wide)
port_accessed (Op.Sc at value wide) = port_at at (width_of wide)
port_accessed op = None

-- the place of an access: the board where it is to its registers, else a port, else where it is in memory
abbrev pub place_by : ℕ → Bool → Option ℕ → PlaceId → PlaceId
place_by ports true port memory = PlaceId.Board
place_by ports false (Some port) memory = port_place ports port
place_by ports false None memory = memory

-- The place of an op, by what there is. An act on a host object and a wait have none, nor has an access outside RAM, the
-- board's registers and the ports, or an act on a port that isn't there.
abbrev pub place_of : Layout → Op → PlaceId
place_of there (Op.Port port act) = port_place there.ports port
place_of there (Op.Board act) = PlaceId.Board
place_of there op = place_by there.ports (is_register_access op) (port_accessed op) (access_place there.memory_size op)
