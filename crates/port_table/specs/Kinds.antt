-- The kinds of devices, one row each.
use Rattle.std.specs.Prelude.{ℕ, ◌^◌}
use Rattle.port_table.specs.declared.kind.DeviceKind.{DeviceKind}
use Rattle.port_table.specs.declared.kind.DeviceKind.TheVariants.{Net, Block, Balloon, Vsock, Entropy}
use Rattle.port_table.specs.declared.kind.Feature.{Feature}
use Rattle.port_table.specs.declared.kind.Feature.TheVariants as feature

-- the number of a device's type (VIRTIO 1.2, 5)
abbrev pub device_id : DeviceKind → ℕ
device_id Net = 1
device_id Block = 2
device_id Balloon = 5
device_id Vsock = 19
device_id Entropy = 4

-- how many queues it has: receive and transmit (5.1.2); requests (5.2.2); inflate, deflate and statistics (5.5.2);
-- receive, transmit and event (5.10.2); requests (5.4.2)
abbrev pub queue_count : DeviceKind → ℕ
queue_count Net = 2
queue_count Block = 1
queue_count Balloon = 3
queue_count Vsock = 3
queue_count Entropy = 1

-- how many bytes its configuration has: the MAC address (5.1.4); the capacity in sectors (5.2.4); the pages that the
-- host wants and those that the guest gave (5.5.4); the guest's context id (5.10.4); an entropy device has none (5.4.4)
abbrev pub config_length : DeviceKind → ℕ
config_length Net = 6
config_length Block = 8
config_length Balloon = 8
config_length Vsock = 8
config_length Entropy = 0

-- the bit of a feature (5.1.3, 5.2.3, 5.5.3, and 6 for those of every device)
abbrev pub feature_bit : Feature → ℕ
feature_bit feature.Version1 = 32
feature_bit feature.IndirectDescriptors = 28
feature_bit feature.EventIndex = 29
feature_bit feature.NetMac = 5
feature_bit feature.BlockReadOnly = 5
feature_bit feature.BlockFlush = 9
feature_bit feature.BalloonStatistics = 1
feature_bit feature.BalloonDeflateOnOom = 2

abbrev pub feature_mask : Feature → ℕ
feature_mask f = 2 ^ feature_bit f
