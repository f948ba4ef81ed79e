-- A file may have whatever is kept of a device behind the Reset that comes before a create.
use Rattle.std.proofs.Common.{◌≡◌, ℕ, ◌≤◌, ◌^◌, refl, sym, subst, true, false}
use Rattle.device_trace.specs.Script.{Script, data_of}
use Rattle.queue_device.specs.Service.{Queued}
use Rattle.queue_device.proofs.KeptStays.{root_of, test_parts}
use Rattle.vsock_device.specs.declared.data.Vsock.{Vsock as VsockData}
use Rattle.vsock_device.specs.Vsock as vsocks
use Rattle.vsock_device.specs.Work as vsock_work
use Rattle.vsock_device.proofs.Unconnected.{IsUnconnected, behind_reset, test_of}
use Rattle.guest_devices.specs.declared.device.Device.{Device}
use Rattle.guest_devices.specs.declared.device.Device.TheVariants as device
use Rattle.guest_devices.specs.Devices.{DataOf, DeviceLeads, DeviceLeft, FlatDevice, device_reset, left_reset}
use Rattle.guest_devices.specs.Kept.{device_left, is_device_state, is_kept, is_saved}
use Rattle.guest_devices.specs.Kinds.{Balloon, Block, Entropy, Kind, Net, Vsock}
use Rattle.guest_devices.specs.Sound.{IsSoundDevice}
use Rattle.guest_devices.proofs.Follows.{one_left, reset_leads}
use Rattle.guest_devices.proofs.Placed.{kept_state}
use Rattle.guest_devices.proofs.Soundness.{copied}

-- the data at the root of what is left may be in a file
abbrev RootOf : (k : Kind) → Script (DataOf k) → Type 0
RootOf Block t = Unit {0}
RootOf Net t = Unit {0}
RootOf Vsock t = IsUnconnected (data_of t).own
RootOf Balloon t = Unit {0}
RootOf Entropy t = Unit {0}

abbrev HasRoot : DeviceLeft → Type 0
HasRoot left = RootOf left.kind left.left

reset_root : (it : Device) → is_device_state it ≡ true → HasRoot (left_reset (device_left it))
reset_root (device.Block b) is = tt
reset_root (device.Net n) is = tt
reset_root (device.Vsock v) is =
    behind_reset v.phase v.rounds v.kind.own v.kind.stage
    (test_parts vsocks.vsock false vsock_work.is_work v.phase v.rounds v.kind.stage is).place
reset_root (device.Balloon b) is = tt
reset_root (device.Entropy e) is = tt

saved_root : (now : Device) → is_device_state now ≡ true → HasRoot (device_left now) → is_saved now ≡ true
saved_root (device.Block b) is has = refl
saved_root (device.Net n) is has = refl
saved_root (device.Vsock v) is has =
    let place = (test_parts vsocks.vsock false vsock_work.is_work v.phase v.rounds v.kind.stage is).place in
    let root = root_of vsocks.vsock false vsock_work.hand_of v.phase v.rounds v.kind.own v.kind.stage place in
    test_of v.kind.own (subst (λ (d : Queued VsockData). IsUnconnected d.own) root has)
saved_root (device.Balloon b) is has = refl
saved_root (device.Entropy e) is has = refl

pub reset_saved : (it now : Device) → is_device_state it ≡ true → is_device_state now ≡ true
    → device_left now ≡ left_reset (device_left it) → is_saved now ≡ true
reset_saved it now was is left =
    saved_root now is (subst (λ (d : DeviceLeft). HasRoot d) (sym left) (reset_root it was))

pub flat_saved : (port pages : ℕ) (d : FlatDevice) (now : Device) → pages ≤ 2 ^ 20 → IsSoundDevice port pages d
    → DeviceLeads (device_reset d) (device_left now) → is_kept now ≡ true → is_saved now ≡ true
flat_saved port pages d now few sound leads is =
    let was = copied port pages d few sound in
    reset_saved was.0 now was.2 (kept_state now is)
    (one_left (device_reset d) (device_left now) (left_reset (device_left was.0)) leads (reset_leads d (device_left was.0) was.1))
