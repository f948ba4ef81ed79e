-- The copy of a world.
use Rattle.std.specs.Prelude.{ℕ, ◌≡◌, ◌≤◌, List, [], Some, slice_get}
use Rattle.vm_config.specs.declared.config.Config.{Config}
use Rattle.guest_devices.specs.declared.device.Device.{Device}
use Rattle.guest_devices.specs.Kept.{AreReset}
use Rattle.guest_pages.specs.Pages.{flat_of}
use Rattle.hart_trace.specs.States.{Hart}
use Rattle.flat_guest.specs.Guest.{Guest, none_written}
use Rattle.snap_state.specs.declared.copy.StateCopy.{StateCopy}
use Rattle.flat_snapshot.specs.Copies.{copy_of}
use Rattle.vm_world.specs.Worlds.{WorldValue}

-- a guest with its memory, its board and its ports, which is all that a copy looks at besides the harts and the devices
abbrev pub guest_of : WorldValue → Guest
guest_of w = record {
  memory = flat_of w.pages;
  board = w.board;
  ports = w.ports;
  starts = [];
  steps = λ actor. [];
  devices = [];
  written = none_written;
}

-- the copy of a world with this kept of its devices
abbrev pub copy_in : Config → WorldValue → List Device → StateCopy
copy_in config w kept = copy_of config (guest_of w) w.harts kept

-- the copy of a world as it is behind a Reset
abbrev pub IsCopyIn : Config → WorldValue → StateCopy → Type 0
IsCopyIn config w copy = AreReset w.devices copy.devices × (copy ≡ copy_in config w copy.devices)

-- the next look of each hart is within 32 instructions
abbrev pub AreCounted : List Hart → Type 0
AreCounted harts = (i : ℕ) (h : Hart) → slice_get harts i ≡ Some h → h.regs.count ≤ 32
