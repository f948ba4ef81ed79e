-- The guest as a start makes it.
use Rattle.std.specs.Prelude.{ℕ, suc, if◌then◌else◌, List, [], ◌∷◌, map, replicate, slice_set}
use Rattle.vm_types.specs.declared.ids.ActorId.TheVariants.{Timer}
use Rattle.vm_types.specs.Ids.{same_actor}
use Rattle.guest_memory.specs.Boot.{Loads, boot_memory, image_start, tree_start}
use Rattle.board_table.specs.Board.{new_board}
use Rattle.rv_supervisor.specs.declared.regs.Regs.{Regs}
use Rattle.rv_supervisor.specs.Start.{start_regs}
use Rattle.hart_trace.specs.Stopped.{stopped_regs}
use Rattle.guest_devices.specs.declared.new_device.NewDevice.{NewDevice}
use Rattle.guest_devices.specs.Devices.{FlatDevice, new_device}
use Rattle.guest_devices.specs.Ports.{port_at_start}
use Rattle.flat_guest.specs.Guest.{Guest, none_written, whole_pages}

-- Hart 0 starts at the image, its number 0 in a0 and the device tree's address in a1, every other register 0. All
-- others are stopped.
abbrev pub start_of_harts : ℕ → ℕ → List Regs
start_of_harts harts mib = slice_set (replicate harts stopped_regs) 0 (start_regs image_start 0 (tree_start mib))

-- these devices, which have done nothing, in a guest of so many pages, numbered from k on
abbrev pub devices_at_start : ℕ → ℕ → List NewDevice → List FlatDevice
devices_at_start pages k [] = []
devices_at_start pages k (what ∷ others) = new_device k pages what ∷ devices_at_start pages (suc k) others

-- so many harts, with this much memory and this loaded into it, and these devices, each with its port
abbrev pub started : ℕ → ℕ → Loads → List NewDevice → Guest
started harts mib loads devices = record {
  memory = boot_memory mib loads;
  board = new_board harts;
  ports = map port_at_start devices;
  starts = start_of_harts harts mib;
  steps = λ actor. [];
  devices = devices_at_start (whole_pages (boot_memory mib loads)) 0 devices;
  written = none_written;
}

-- the timer is put back to its start, an advance that isn't made yet included
abbrev pub timer_restarted : Guest → Guest
timer_restarted g = record g { steps = λ actor. if same_actor Timer actor then [] else g.steps actor }
