-- The port of a device that has done nothing, by its kind, and what it shows of a change.
use Rattle.std.specs.Prelude.{ℕ, Bool, if◌then◌else◌, Option, Some, None, List, bit_or}
use Rattle.le_fields.specs.Fields.{bytes_of}
use Rattle.port_table.specs.declared.kind.DeviceKind.{DeviceKind}
use Rattle.port_table.specs.declared.kind.DeviceKind.TheVariants as numbers
use Rattle.port_table.specs.declared.kind.Feature.{Feature}
use Rattle.port_table.specs.declared.kind.Feature.TheVariants.{BlockFlush, BlockReadOnly}
use Rattle.port_table.specs.declared.state.PortState.{PortState}
use Rattle.port_table.specs.Kinds.{feature_mask}
use Rattle.port_table.specs.Ports.{new_port}
use Rattle.block_device.specs.declared.kind.BlockChange.TheVariants.{Limits, Sectors}
use Rattle.net_device.specs.Port.{net_port}
use Rattle.vsock_device.specs.Port.{vsock_port}
use Rattle.balloon_device.specs.Port.{balloon_port}
use Rattle.entropy_device.specs.Port.{entropy_port}
use Rattle.guest_devices.specs.declared.change.DeviceChange.{DeviceChange}
use Rattle.guest_devices.specs.declared.change.DeviceChange.TheVariants as changes
use Rattle.guest_devices.specs.declared.drive.NewDrive.{NewDrive}
use Rattle.guest_devices.specs.declared.new_device.NewDevice.{NewDevice}
use Rattle.guest_devices.specs.declared.new_device.NewDevice.TheVariants as starts
use Rattle.guest_devices.specs.Kinds.{Balloon, Block, Entropy, Kind, Net, Vsock}

-- ---- a block device

-- what it offers: that it is read-only where its drive is, and flush requests where its drive does (VIRTIO 1.2, 5.2.3)
abbrev pub feature_if : Bool → Feature → ℕ
feature_if has f = if has then feature_mask f else 0

abbrev pub offered : NewDrive → ℕ
offered d = bit_or (feature_if d.is_read_only BlockReadOnly) (feature_if d.offers_flush BlockFlush)

-- its configuration is the capacity in sectors (5.2.4)
abbrev pub capacity : ℕ → List ℕ
capacity sectors = bytes_of 8 sectors

abbrev pub block_port : NewDrive → PortState
block_port d = new_port numbers.Block (offered d) (capacity d.sectors)

-- ---- a line a kind

-- which device its port shows (VIRTIO 1.2, 5)
abbrev pub number_of : Kind → DeviceKind
number_of Block = numbers.Block
number_of Net = numbers.Net
number_of Vsock = numbers.Vsock
number_of Balloon = numbers.Balloon
number_of Entropy = numbers.Entropy

abbrev pub port_at_start : NewDevice → PortState
port_at_start (starts.Block d) = block_port d
port_at_start (starts.Net n) = net_port n
port_at_start (starts.Vsock v) = vsock_port v
port_at_start (starts.Balloon b) = balloon_port b
port_at_start (starts.Entropy e) = entropy_port

-- the configuration that the port shows from a change on, if it shows the change
abbrev pub shown_by : DeviceChange → Option (List ℕ)
shown_by (changes.Block (Sectors sectors)) = Some (capacity sectors)
shown_by (changes.Block (Limits bandwidth ops)) = None
shown_by (changes.Net c) = None
shown_by (changes.Balloon c) = None
