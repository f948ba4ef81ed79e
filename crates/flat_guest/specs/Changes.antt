-- What the API changes of a guest, and the Reset that comes before a create. Neither is an event.
use Rattle.std.specs.Prelude.{ℕ, List, Option, Some, None, map, slice_get, slice_set}
use Rattle.vm_types.specs.declared.ids.ActorId.TheVariants.{Device}
use Rattle.board_table.specs.Acts.{raise_line}
use Rattle.board_table.specs.Board.{Board}
use Rattle.port_table.specs.declared.state.PortState.{PortState}
use Rattle.port_table.specs.Acts.{configured}
use Rattle.guest_devices.specs.declared.change.DeviceChange.{DeviceChange}
use Rattle.guest_devices.specs.Devices.{FlatDevice, device_reset, device_told}
use Rattle.flat_guest.specs.Guest.{Guest}

-- the device of this number, if it is there, is told of a change
abbrev pub devices_told : Option FlatDevice → List FlatDevice → ℕ → DeviceChange → List FlatDevice
devices_told None devices k change = devices
devices_told (Some d) devices k change = slice_set devices k (device_told d change)

-- its port, if it is there, shows these bytes as its configuration
abbrev pub ports_shown : Option PortState → List PortState → ℕ → List ℕ → List PortState
ports_shown None ports k shown = ports
ports_shown (Some p) ports k shown = slice_set ports k (configured p shown)

-- and what it shows anew its driver is told of, by the device's line
abbrev pub board_shown : Option (List ℕ) → Board → ℕ → Board
board_shown None board k = board
board_shown (Some shown) board k = raise_line board (Device k)

abbrev pub ports_with : Option (List ℕ) → List PortState → ℕ → List PortState
ports_with None ports k = ports
ports_with (Some shown) ports k = ports_shown (slice_get ports k) ports k shown

-- Device k is told of a change, and shows these bytes, if there are any. Where there is no such device, and so no port of it,
-- only the line of that number is raised, if the board has it.
abbrev pub told : ℕ → DeviceChange → Option (List ℕ) → Guest → Guest
told k change shown g = record g {
  board = board_shown shown g.board k;
  ports = ports_with shown g.ports k;
  devices = devices_told (slice_get g.devices k) g.devices k change;
}

-- a guest behind the Reset that comes before a create: each device is told of it, and all else stays
abbrev pub reset_guest : Guest → Guest
reset_guest g = record g { devices = map device_reset g.devices }
