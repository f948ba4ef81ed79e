-- What a live machine tells of its balloon, and what becomes of its world where a device is told of a change.
use Rattle.std.specs.Prelude.{◌≡◌, ℕ, List, Option, Some, None, option_and_then, option_map, slice_get}
use Rattle.api_calls.specs.declared.balloon.Balloon.{Balloon}
use Rattle.api_calls.specs.declared.interface.InterfacePatch.{InterfacePatch}
use Rattle.api_calls.specs.declared.limiter.Limiter.{Limiter}
use Rattle.api_calls.specs.declared.call.ApiCall.{ApiCall}
use Rattle.api_calls.specs.declared.call.ApiCall.TheVariants as call
use Rattle.vm_config.specs.declared.config.Config.{Config}
use Rattle.vm_config.specs.declared.statistics.Statistics as tell
use Rattle.vm_config.specs.Changes.{with_amount, with_interval}
use Rattle.vm_config.specs.Devices.{balloon_device, interface_device}
use Rattle.vm_config.specs.Drives.{device_of}
use Rattle.port_table.specs.declared.state.PortState.{PortState}
use Rattle.balloon_device.specs.declared.statistics.Statistics.{Statistics}
use Rattle.guest_devices.specs.declared.change.DeviceChange.{DeviceChange}
use Rattle.guest_devices.specs.Kinds.{sectors_change}
use Rattle.flat_guest.specs.Changes.{told}
use Rattle.flat_guest.specs.Guest.{Guest}
use Rattle.flat_machine.specs.Balloon.{TellsBalloon, interval_told, statistics_of, target_in}
use Rattle.flat_machine.specs.Limits.{limits_told, receives_told, transmits_told}
use Rattle.flat_machine.specs.Machine.{Machine}
use Rattle.flat_machine.specs.Requests.{shows_by}
use Rattle.vm_world.specs.Telling as world
use Rattle.vm_world.specs.Worlds.{IsWorld, WorldValue}
use Rattle.monitor_machine.specs.Live.{Live}
use Rattle.monitor_machine.specs.State.{IsLive}

-- ---- what is told

-- by what its port shows and what its driver told, if there are both
abbrev pub told_by : Option (List ℕ) → Option Statistics → Option tell.Statistics
told_by (Some shown) (Some s) = Some (statistics_of shown s)
told_by (Some shown) None = None
told_by None s = None

-- the configuration of a port, if it is there
abbrev pub shown_of : Option PortState → Option (List ℕ)
shown_of port = option_map (λ (p : PortState). p.config) port

abbrev pub statistics_at : Option ℕ → WorldValue → Option tell.Statistics
statistics_at None w = None
statistics_at (Some k) w =
    told_by (shown_of (slice_get w.ports k)) (option_and_then world.statistics_of (slice_get w.devices k))

abbrev pub statistics_in : Config → Option WorldValue → Option tell.Statistics
statistics_in config None = None
statistics_in config (Some w) = statistics_at (balloon_device config) w

-- each machine that it is tells that
abbrev pub TellsOwn : Live → Type 0
TellsOwn live = (m : Machine) → IsLive live m → TellsBalloon m.guest (balloon_device m.config) (statistics_in live.config live.guest)

-- ---- where a device is told of a change

-- what becomes of the world where the device is told, and its port shows what this makes of it, if both are there
abbrev pub TellsDevice : Option ℕ → DeviceChange → (Option PortState → Option (List ℕ)) → Option WorldValue → Option WorldValue → Type 0
TellsDevice None change shows world after = after ≡ world
TellsDevice (Some k) change shows None after = after ≡ None
TellsDevice (Some k) change shows (Some w) None = ⊥
TellsDevice (Some k) change shows (Some w) (Some v) =
    (g : Guest) → IsWorld w g → IsWorld v (told k change (shows (slice_get g.ports k)) g)

-- the size of its disk
abbrev pub Resizes : Option ℕ → ℕ → Option WorldValue → Option WorldValue → Type 0
Resizes device sectors world after =
    TellsDevice device (sectors_change sectors) (shows_by (sectors_change sectors)) world after

-- its limits, if they are given, so
abbrev pub Relimits : (Limiter → DeviceChange) → Option Limiter → Option ℕ → Option WorldValue → Option WorldValue → Type 0
Relimits tells None device world after = after ≡ world
Relimits tells (Some l) device world after = TellsDevice device (tells l) (shows_by (tells l)) world after

-- both limits of an interface, that of what it receives first
abbrev pub RelimitsBoth : InterfacePatch → Option ℕ → Option WorldValue → Option WorldValue → Type 0
RelimitsBoth patch device world after =
    (mid : Option WorldValue) × Relimits receives_told patch.rx_rate_limiter device world mid
    × Relimits transmits_told patch.tx_rate_limiter device mid after

-- how much the balloon is to take
abbrev pub Retargets : Option Balloon → Option ℕ → Option WorldValue → Option WorldValue → Type 0
Retargets None device world after = after ≡ world
Retargets (Some b) device world after = TellsDevice device (interval_told b) (target_in b) world after

-- and when it reports
abbrev pub Retimes : Option Balloon → Option ℕ → Option WorldValue → Option WorldValue → Type 0
Retimes None device world after = after ≡ world
Retimes (Some b) device world after = TellsDevice device (interval_told b) (shows_by (interval_told b)) world after

-- what a call tells that asks no file
abbrev pub TellsChange : ApiCall → Config → Option WorldValue → Option WorldValue → Type 0
TellsChange (call.PatchDrive patch) config world after =
    Relimits limits_told patch.rate_limiter (device_of config.drives patch.drive_id) world after
TellsChange (call.PatchInterface patch) config world after =
    RelimitsBoth patch (interface_device config patch.iface_id) world after
TellsChange (call.PatchBalloon patch) config world after =
    Retargets (with_amount patch config.balloon) (balloon_device config) world after
TellsChange (call.PatchStatistics patch) config world after =
    Retimes (with_interval patch config.balloon) (balloon_device config) world after
TellsChange it config world after = after ≡ world
