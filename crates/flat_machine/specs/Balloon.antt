-- The balloon of a machine: what it starts with, what it is told, and what it tells.
use Rattle.std.specs.Prelude.{ℕ, ◌≡◌, ◌*◌, Option, Some, None, option_map, List, slice_get, unwrap_or}
use Rattle.api_calls.specs.declared.balloon.Balloon.{Balloon}
use Rattle.le_fields.specs.Fields.{field_at}
use Rattle.vm_config.specs.declared.statistics.Statistics as tell
use Rattle.device_trace.specs.Script.{data_of}
use Rattle.port_table.specs.declared.state.PortState.{PortState}
use Rattle.balloon_device.specs.declared.kind.BalloonChange.TheVariants.{Interval}
use Rattle.balloon_device.specs.declared.new_balloon.NewBalloon.{NewBalloon}
use Rattle.balloon_device.specs.declared.statistics.Statistics.{Statistics}
use Rattle.balloon_device.specs.Port.{target_shown}
use Rattle.guest_devices.specs.declared.change.DeviceChange.{DeviceChange}
use Rattle.guest_devices.specs.declared.change.DeviceChange.TheVariants as changes
use Rattle.guest_devices.specs.Devices.{DeviceLeads, DeviceLeft, FlatDevice}
use Rattle.guest_devices.specs.Kinds as kinds
use Rattle.guest_devices.specs.Kinds.{Kind, OwnOf}
use Rattle.flat_guest.specs.Guest.{Guest}

-- ---- what it starts with, and what it is told

-- a MiB has 256 pages
abbrev pub target_of : Balloon → ℕ
target_of b = 256 * b.amount_mib

abbrev pub new_balloon : Balloon → NewBalloon
new_balloon b = record {
  target = target_of b;
  deflates_on_oom = b.deflate_on_oom;
  interval = b.stats_polling_interval_s;
}

-- the seconds between two reports, which it is told of with every change
abbrev pub interval_told : Balloon → DeviceChange
interval_told b = changes.Balloon (Interval b.stats_polling_interval_s)

-- what its port shows once it is to take so much; how many pages its driver gave stays
abbrev pub target_in : Balloon → Option PortState → Option (List ℕ)
target_in b port = option_map (target_shown (target_of b)) port

-- ---- what it tells

-- the value of a tag, if it has one
abbrev pub value_of : Statistics → ℕ → Option ℕ
value_of s tag = unwrap_or (slice_get s.values tag) None

-- both numbers of pages in the configuration that its port shows (VIRTIO 1.2, 5.5.4), and what its driver told last (5.5.6.4)
abbrev pub statistics_of : List ℕ → Statistics → tell.Statistics
statistics_of shown s = record {
  target_pages = field_at shown 0 4;
  actual_pages = field_at shown 4 4;
  swap_in = value_of s 0;
  swap_out = value_of s 1;
  major_faults = value_of s 2;
  minor_faults = value_of s 3;
  free_memory = value_of s 4;
  total_memory = value_of s 5;
  available_memory = value_of s 6;
  disk_caches = value_of s 7;
  hugetlb_allocations = value_of s 8;
  hugetlb_failures = value_of s 9;
}

-- by the data of a device, if it is a balloon
abbrev pub statistics_by : (k : Kind) → PortState → OwnOf k → Option tell.Statistics
statistics_by kinds.Balloon p own = Some (statistics_of p.config own.statistics)
statistics_by k p own = None

abbrev pub statistics_left : PortState → DeviceLeft → Option tell.Statistics
statistics_left p d = statistics_by d.kind p (data_of d.left).own

-- where its items lead
abbrev pub DeviceTells : Option FlatDevice → Option PortState → Option tell.Statistics → Type 0
DeviceTells (Some d) (Some p) s = (left : DeviceLeft) × DeviceLeads d left × (s ≡ statistics_left p left)
DeviceTells device port s = s ≡ None

-- the balloon of this number in a guest that has started, if there are both
abbrev pub TellsBalloon : Option Guest → Option ℕ → Option tell.Statistics → Type 0
TellsBalloon (Some g) (Some k) s = DeviceTells (slice_get g.devices k) (slice_get g.ports k) s
TellsBalloon guest number s = s ≡ None
