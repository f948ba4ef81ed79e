-- The limits of a device, and guest time: no request passed later than it.
use Rattle.std.specs.Prelude.{ℕ, ◌≡◌, nat_le, ◌&&◌, Bool, true, Option, Some, None}
use Rattle.device_trace.specs.Keeps.{Moves}
use Rattle.device_trace.specs.Script.{data_of}
use Rattle.token_bucket.specs.Kept.{Kept}
use Rattle.rate_gate.specs.Gate.{Buckets}
use Rattle.block_device.specs.declared.kind.BlockChange.TheVariants.{Limits, Sectors}
use Rattle.net_device.specs.declared.kind.NetChange.TheVariants.{Receives, Transmits}
use Rattle.guest_devices.specs.declared.change.DeviceChange.{DeviceChange}
use Rattle.guest_devices.specs.declared.change.DeviceChange.TheVariants as changes
use Rattle.guest_devices.specs.declared.device.Device.{Device}
use Rattle.guest_devices.specs.declared.new_device.NewDevice.{NewDevice}
use Rattle.guest_devices.specs.Devices.{DataOf, DeviceLeads, DeviceLeft, FitsNew, FlatDevice}
use Rattle.guest_devices.specs.Kept.{kept_of}
use Rattle.guest_devices.specs.Kinds.{Balloon, Block, Entropy, FitsChange, Kind, Net, OwnOf, Vsock, kind_at_start, own_at_start}

-- the newest request of a bucket passed at this time, or before
abbrev pub is_before : ℕ → Option Kept → Bool
is_before time None = true
is_before time (Some k) = nat_le k.moment time

abbrev pub are_before : ℕ → Buckets → Bool
are_before time b = is_before time b.bandwidth && is_before time b.ops

-- that of each bucket of a device of this kind, a line a kind
abbrev pub is_timely_of : (k : Kind) → ℕ → OwnOf k → Bool
is_timely_of Block time e = are_before time e.limits
is_timely_of Net time e = are_before time e.rx && are_before time e.tx
is_timely_of Vsock time e = true
is_timely_of Balloon time e = true
is_timely_of Entropy time e = are_before time e.limits

abbrev pub is_timely : ℕ → Device → Bool
is_timely time d = is_timely_of (kept_of d).kind time (kept_of d).own

-- ---- what comes from outside: buckets through which nothing passed

abbrev pub is_fresh : Option (Option Kept) → Bool
is_fresh None = true
is_fresh (Some b) = is_before 0 b

abbrev pub is_fresh_change : DeviceChange → Bool
is_fresh_change (changes.Block (Sectors sectors)) = true
is_fresh_change (changes.Block (Limits bandwidth ops)) = is_fresh bandwidth && is_fresh ops
is_fresh_change (changes.Net (Receives bandwidth ops)) = is_fresh bandwidth && is_fresh ops
is_fresh_change (changes.Net (Transmits bandwidth ops)) = is_fresh bandwidth && is_fresh ops
is_fresh_change (changes.Balloon c) = true

abbrev pub is_fresh_new : NewDevice → Bool
is_fresh_new what = is_timely_of (kind_at_start what) 0 (own_at_start what)

abbrev pub IsFreshNew : NewDevice → Type 0
IsFreshNew what = is_fresh_new what ≡ true

-- a change and a start that fit, with such buckets
abbrev pub IsGivenChange : DeviceChange → Type 0
IsGivenChange change = FitsChange change × (is_fresh_change change ≡ true)

abbrev pub IsGivenNew : NewDevice → Type 0
IsGivenNew what = FitsNew what × IsFreshNew what

-- ---- the device in the flat machine

-- data that are timely are so behind it, at any time
abbrev pub KeepsTime : (k : Kind) → OwnOf k → OwnOf k → Type 0
KeepsTime k e f = (time : ℕ) → is_timely_of k time e ≡ true → is_timely_of k time f ≡ true

-- its data are timely, and what is left of its group leaves them so
pub record IsTimelyLeft (time : ℕ) (d : DeviceLeft) : Type 0 where
  pub now : is_timely_of d.kind time (data_of d.left).own ≡ true
  pub stays : Moves (λ (e f : DataOf d.kind). KeepsTime d.kind e.own f.own) (data_of d.left) d.left

-- where its items lead
abbrev pub IsTimelyDevice : ℕ → FlatDevice → Type 0
IsTimelyDevice time d = (left : DeviceLeft) × DeviceLeads d left × IsTimelyLeft time left
