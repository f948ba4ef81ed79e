use Rattle.snap_devices.proofs.Held.{device_held}
use Rattle.snap_devices.proofs.DeviceNarrow.{device_narrow}
use Rattle.snap_devices.proofs.Fits.{device_fits}
use Rattle.snap_devices.proofs.Ports.{port_fits}
-- The fields' lengths add up.
use Rattle.snap_devices.proofs.Lengths.{port_long}
use Rattle.snap_devices.proofs.law.port_size.Goals as goal

pub returns : goal.returns
returns c = port_long
