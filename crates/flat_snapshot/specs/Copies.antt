-- What a snapshot keeps of a machine that has started, besides the bytes of its memory.
use Rattle.std.specs.Prelude.{◌≡◌, ℕ, suc, ◌/◌, ◌%◌, true, List, [], ◌∷◌, Option, Some, None, length, map}
use Rattle.vm_types.specs.declared.ids.ActorId.{ActorId}
use Rattle.vm_types.specs.declared.ids.ActorId.TheVariants.{Hart as HartId}
use Rattle.vm_types.specs.declared.entry.Step.{Step}
use Rattle.api_calls.specs.declared.call.BootSource as call
use Rattle.vm_config.specs.declared.config.Config.{Config}
use Rattle.guest_memory.specs.Ram.{page_size}
use Rattle.guest_memory.specs.Reserved.{hart_limit}
use Rattle.rv_supervisor.specs.declared.regs.Regs.{Regs}
use Rattle.hart_trace.specs.States.{Hart, LeadsTo}
use Rattle.guest_devices.specs.declared.device.Device.{Device}
use Rattle.guest_devices.specs.Devices.{DeviceLeads, FlatDevice}
use Rattle.guest_devices.specs.Kept.{device_left, is_kept}
use Rattle.flat_guest.specs.Guest.{Guest}
use Rattle.snap_state.specs.declared.configuration.BootSource.{BootSource}
use Rattle.snap_state.specs.declared.configuration.Configuration.{Configuration}
use Rattle.snap_state.specs.declared.copy.Reservation.{Reservation}
use Rattle.snap_state.specs.declared.copy.StateCopy.{StateCopy}
use Rattle.snap_harts.specs.Copy.{saved_hart}
use Rattle.snap_state.specs.Copy.{saved_board}
use Rattle.snap_state.specs.Sections.{sections_of}

-- the harts from this number on, each where its steps lead
abbrev pub AreHarts : ℕ → List Regs → (ActorId → List Step) → List Hart → Type 0
AreHarts k [] steps harts = harts ≡ []
AreHarts k (start ∷ starts) steps harts =
    (h : Hart) × (rest : List Hart) × (harts ≡ h ∷ rest) × LeadsTo start (steps (HartId k)) h
    × AreHarts (suc k) starts steps rest

-- what is kept of the devices: of each such data as may be kept, which tell what it has still to do where its items lead
abbrev pub AreKept : List Device → List FlatDevice → Type 0
AreKept [] [] = Unit {0}
AreKept (it ∷ kept) (d ∷ devices) = DeviceLeads d (device_left it) × (is_kept it ≡ true) × AreKept kept devices
AreKept kept devices = ⊥

-- what is reserved in the slots from this number on, by page and then by hart
abbrev pub reservations_from : ℕ → List (Option ℕ) → List Reservation
reservations_from slot [] = []
reservations_from slot (None ∷ slots) = reservations_from (suc slot) slots
reservations_from slot (Some offset ∷ slots) =
    record { page = slot / hart_limit; hart = slot % hart_limit; offset = offset } ∷ reservations_from (suc slot) slots

-- what was booted, which a machine that has started has
abbrev pub source_of : Option call.BootSource → BootSource
source_of None = record { kernel_image_path = []; initrd_path = None; boot_args = [] }
source_of (Some source) =
    record {
      kernel_image_path = source.kernel_image_path;
      initrd_path = source.initrd_path;
      boot_args = source.boot_args;
    }

-- what is kept of a configuration, but for the entropy device, which stands in a section
abbrev pub configuration_of : Config → Configuration
configuration_of config = record {
  boot_source = source_of config.boot_source;
  drives = config.drives;
  interfaces = config.interfaces;
  vsock = config.vsock;
  machine = config.machine;
  balloon = config.balloon;
  mmds = config.mmds;
}

-- the copy of a guest whose harts are where these are, with this kept of its devices
abbrev pub copy_of : Config → Guest → List Hart → List Device → StateCopy
copy_of config g harts kept = record {
  configuration = configuration_of config;
  pages = length g.memory.bytes / page_size;
  track_dirty_pages = config.machine.track_dirty_pages;
  guest_time = g.board.now;
  board = saved_board g.board;
  harts = map saved_hart harts;
  ports = g.ports;
  devices = kept;
  reservations = reservations_from 0 g.memory.reserved;
  sections = sections_of g.ports config.entropy;
}

-- A copy of the guest of a machine that is configured so. What is kept of a device is any of the data that may be kept and
-- tell what it has still to do: several may tell the same, as with a border between two parts of a chain that touch.
abbrev pub IsCopyOf : Config → Guest → StateCopy → Type 0
IsCopyOf config g copy =
    (harts : List Hart) × AreHarts 0 g.starts g.steps harts × AreKept copy.devices g.devices
    × (copy ≡ copy_of config g harts copy.devices)
