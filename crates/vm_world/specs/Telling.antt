-- What a device of a world tells.
use Rattle.std.specs.Prelude.{Option, Some, None}
use Rattle.balloon_device.specs.declared.statistics.Statistics.{Statistics}
use Rattle.guest_devices.specs.declared.device.Device.{Device}
use Rattle.guest_devices.specs.declared.device.Device.TheVariants as device

-- what its driver told last, if the device is a balloon
abbrev pub statistics_of : Device → Option Statistics
statistics_of (device.Balloon b) = Some b.kind.own.statistics
statistics_of (device.Block b) = None
statistics_of (device.Net n) = None
statistics_of (device.Vsock v) = None
statistics_of (device.Entropy e) = None
