-- A guest whose copy passes each test of a state file: all of it but what is kept of its devices and the widths of its numbers.
use Rattle.std.specs.Prelude.{ℕ, ◌≡◌, ◌≤◌, ◌*◌, List, Some, length, map, slice_get}
use Rattle.vm_types.specs.declared.ids.ActorId.TheVariants.{Hart as HartId}
use Rattle.guest_memory.specs.Kept.{IsWhole}
use Rattle.guest_memory.specs.Ram.{page_size}
use Rattle.guest_memory.specs.Reserved.{hart_limit}
use Rattle.board_table.specs.Kept.{IsLong}
use Rattle.port_table.specs.declared.kind.DeviceKind.{DeviceKind}
use Rattle.rv_supervisor.specs.declared.regs.Regs.{Regs}
use Rattle.hart_trace.specs.Kept as hart
use Rattle.hart_trace.specs.States.{Hart, LeadsTo}
use Rattle.guest_devices.specs.declared.new_device.NewDevice.{NewDevice}
use Rattle.guest_devices.specs.Devices.{FlatDevice}
use Rattle.guest_devices.specs.Moments.{IsTimelyDevice}
use Rattle.guest_devices.specs.Ports.{port_at_start}
use Rattle.flat_guest.specs.Guest.{Guest}
use Rattle.flat_guest.specs.Sound.{port_kinds}

-- the kinds of ports that a guest starts with
abbrev pub kinds_at_start : List NewDevice → List DeviceKind
kinds_at_start devices = port_kinds (map port_at_start devices)

-- no request of a device passed later than this time
abbrev pub AreTimely : ℕ → List FlatDevice → Type 0
AreTimely time devices = (k : ℕ) (d : FlatDevice) → slice_get devices k ≡ Some d → IsTimelyDevice time d

-- of so many pages and harts, with ports of these kinds; each hart is such a one where its steps lead, and no request passed later
-- than guest time
pub record IsShaped (pages harts : ℕ) (kinds : List DeviceKind) (g : Guest) : Type 0 where
  pub few : harts ≤ hart_limit
  pub memory : IsWhole pages harts g.memory
  pub board : IsLong harts g.board
  pub ports : port_kinds g.ports ≡ kinds
  pub many : length g.starts ≡ harts
  pub each : (k : ℕ) (start : Regs) (h : Hart) → slice_get g.starts k ≡ Some start
      → LeadsTo start (g.steps (HartId k)) h → hart.IsShaped (page_size * pages) h
  pub timely : AreTimely g.board.now g.devices
