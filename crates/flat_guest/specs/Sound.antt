-- A guest that is never stuck: the steps of its timer and of each hart are the first of a trace, and its devices are sound.
use Rattle.std.specs.Prelude.{ℕ, ◌≡◌, List, Some, length, map, slice_get}
use Rattle.vm_types.specs.declared.ids.ActorId.TheVariants.{Timer, Hart}
use Rattle.rv_supervisor.specs.declared.regs.Regs.{Regs}
use Rattle.port_table.specs.declared.kind.DeviceKind.{DeviceKind}
use Rattle.port_table.specs.declared.state.PortState.{PortState}
use Rattle.hart_trace.specs.Traces.{IsPrefix}
use Rattle.timer_trace.specs.Traces as timer
use Rattle.guest_devices.specs.Devices.{FlatDevice}
use Rattle.guest_devices.specs.Ports.{number_of}
use Rattle.guest_devices.specs.Sound.{IsSoundDevice}
use Rattle.flat_guest.specs.Guest.{Guest, whole_pages}

-- the kinds of ports, by their numbers
abbrev pub port_kinds : List PortState → List DeviceKind
port_kinds ports = map (λ (p : PortState). p.kind) ports

-- and those of devices, as ports show them
abbrev pub device_kinds : List FlatDevice → List DeviceKind
device_kinds devices = map (λ (d : FlatDevice). number_of d.kind) devices

-- each device keeps to the port of its own number, which is there and of its kind, and to the guest's pages, so many
pub record AreSoundDevices (pages : ℕ) (ports : List PortState) (devices : List FlatDevice) : Type 0 where
  pub as_many : length ports ≡ length devices
  pub kinds : port_kinds ports ≡ device_kinds devices
  pub each : (k : ℕ) (d : FlatDevice) → slice_get devices k ≡ Some d → IsSoundDevice k pages d

pub record IsSound (g : Guest) : Type 0 where
  pub timer_on : timer.IsPrefix (g.steps Timer)
  pub harts_on : (k : ℕ) (start : Regs) → slice_get g.starts k ≡ Some start → IsPrefix start (g.steps (Hart k))
  pub devices_on : AreSoundDevices (whole_pages g.memory) g.ports g.devices
