-- What is read of a device of any kind has its widths.
use Rattle.guest_devices.specs.declared.device.Device.{Device}
use Rattle.guest_devices.specs.declared.device.Device.TheVariants as kept
use Rattle.guest_devices.specs.Narrow.{IsNarrowKept}
use Rattle.snap_devices.specs.Devices.{device}
use Rattle.snap_devices.proofs.Narrow.{HoldsBlock, block_is}
use Rattle.snap_devices.proofs.BalloonNarrow.{HoldsBalloon, balloon_is}
use Rattle.snap_devices.proofs.EntropyNarrow.{HoldsEntropy, entropy_is}
use Rattle.snap_devices.proofs.NetNarrow.{HoldsNet, net_is}
use Rattle.snap_devices.proofs.VsockNarrow.{HoldsVsock, vsock_is}

-- what a device holds are bytes
abbrev pub HoldsBytes : Device → Type 0
HoldsBytes (kept.Block b) = HoldsBlock b
HoldsBytes (kept.Net n) = HoldsNet n
HoldsBytes (kept.Vsock v) = HoldsVsock v
HoldsBytes (kept.Balloon b) = HoldsBalloon b
HoldsBytes (kept.Entropy e) = HoldsEntropy e

pub device_narrow : (d : Device) → device.Fits d → HoldsBytes d → IsNarrowKept d
device_narrow (kept.Block b) own bytes = block_is b own bytes
device_narrow (kept.Net n) own bytes = net_is n own bytes
device_narrow (kept.Vsock v) own bytes = vsock_is v own bytes
device_narrow (kept.Balloon b) own bytes = balloon_is b own bytes
device_narrow (kept.Entropy e) own bytes = entropy_is e own bytes
