-- Each field of a new device's port has its width.
use Rattle.std.proofs.Common.{◌≡◌, ◌<◌, ◌^◌, ◌==◌, ℕ, [], Bool, true, false, not, refl, arith, Option, Some, None, unwrap_or}
use Rattle.std.proofs.lemmas.List.Elements.{All-append, All-nil}
use Rattle.std.proofs.lemmas.Nat.{or_lt}
use Rattle.le_fields.specs.Fields.{IsByte, bytes_of}
use Rattle.le_fields.proofs.Values.{all_bytes}
use Rattle.port_table.specs.declared.kind.DeviceKind.TheVariants as numbers
use Rattle.port_table.specs.declared.kind.Feature.{Feature}
use Rattle.port_table.specs.declared.kind.Feature.TheVariants as feature
use Rattle.port_table.specs.Kinds.{feature_mask}
use Rattle.port_table.specs.Sizes.{IsKept}
use Rattle.port_table.proofs.Sizes.{new_stays}
use Rattle.net_device.specs.declared.new_net.NewNet.{NewNet}
use Rattle.net_device.specs.Port as net
use Rattle.vsock_device.specs.declared.new_vsock.NewVsock.{NewVsock}
use Rattle.vsock_device.specs.Port as vsock
use Rattle.balloon_device.specs.declared.new_balloon.NewBalloon.{NewBalloon}
use Rattle.balloon_device.specs.Port as balloon
use Rattle.entropy_device.specs.Port as entropy
use Rattle.guest_devices.specs.declared.drive.NewDrive.{NewDrive}
use Rattle.guest_devices.specs.declared.new_device.NewDevice.{NewDevice}
use Rattle.guest_devices.specs.declared.new_device.NewDevice.TheVariants as starts
use Rattle.guest_devices.specs.Kinds.{kind_at_start}
use Rattle.guest_devices.specs.Ports.{block_port, capacity, feature_if, number_of, offered, port_at_start}

feature_small : (has : Bool) (f : Feature) → feature_mask f < 2 ^ 64 → feature_if has f < 2 ^ 64
feature_small true f small = small
feature_small false f small = omega arith

-- ---- a block device

block_small : (d : NewDrive) → offered d < 2 ^ 64
block_small d =
    or_lt 64 (feature_if d.is_read_only feature.BlockReadOnly) (feature_if d.offers_flush feature.BlockFlush)
    (feature_small d.is_read_only feature.BlockReadOnly (omega arith)) (feature_small d.offers_flush feature.BlockFlush (omega arith))

block_kept : (d : NewDrive) → IsKept numbers.Block (block_port d)
block_kept d = new_stays numbers.Block (offered d) (capacity d.sectors) (block_small d) (all_bytes 8 d.sectors)

-- ---- a network device

mac_small : (mac : Option ℕ) → net.mac_offered mac < 2 ^ 64
mac_small None = omega arith
mac_small (Some mac) =
    let small : feature_mask feature.NetMac < 2 ^ 64 = omega arith in
    small

net_kept : (n : NewNet) → IsKept numbers.Net (net.net_port n)
net_kept n = new_stays numbers.Net (net.offered n) (net.config_of n.mac) (mac_small n.mac) (all_bytes 8 (unwrap_or n.mac 0))

-- ---- a vsock device

vsock_kept : (v : NewVsock) → IsKept numbers.Vsock (vsock.vsock_port v)
vsock_kept v = new_stays numbers.Vsock 0 (vsock.config_of v.guest_cid) (omega arith) (all_bytes 8 v.guest_cid)

-- ---- a balloon

balloon_small : (b : NewBalloon) → balloon.offered b < 2 ^ 64
balloon_small b =
    or_lt 64 (feature_if (not (b.interval == 0)) feature.BalloonStatistics) (feature_if b.deflates_on_oom feature.BalloonDeflateOnOom)
    (feature_small (not (b.interval == 0)) feature.BalloonStatistics (omega arith))
    (feature_small b.deflates_on_oom feature.BalloonDeflateOnOom (omega arith))

balloon_kept : (b : NewBalloon) → IsKept numbers.Balloon (balloon.balloon_port b)
balloon_kept b =
    new_stays numbers.Balloon (balloon.offered b) (balloon.config_of b.target 0) (balloon_small b)
    (All-append IsByte (bytes_of 4 b.target) (bytes_of 4 0) (all_bytes 4 b.target) (all_bytes 4 0))

-- ---- an entropy device

entropy_kept : IsKept numbers.Entropy entropy.entropy_port
entropy_kept = new_stays numbers.Entropy 0 [] (omega arith) (All-nil IsByte)

-- ---- each

pub start_kind : (what : NewDevice) → (port_at_start what).kind ≡ number_of (kind_at_start what)
start_kind (starts.Block d) = refl
start_kind (starts.Net n) = refl
start_kind (starts.Vsock v) = refl
start_kind (starts.Balloon b) = refl
start_kind (starts.Entropy e) = refl

pub start_kept : (what : NewDevice) → IsKept (port_at_start what).kind (port_at_start what)
start_kept (starts.Block d) = block_kept d
start_kept (starts.Net n) = net_kept n
start_kept (starts.Vsock v) = vsock_kept v
start_kept (starts.Balloon b) = balloon_kept b
start_kept (starts.Entropy e) = entropy_kept
