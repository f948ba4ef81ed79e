-- The port of a vsock device: its configuration (VIRTIO 1.2, 5.10.4). It offers no feature of its own (5.10.3).
use Rattle.std.specs.Prelude.{ℕ, List}
use Rattle.le_fields.specs.Fields.{bytes_of}
use Rattle.port_table.specs.declared.kind.DeviceKind.TheVariants as numbers
use Rattle.port_table.specs.declared.state.PortState.{PortState}
use Rattle.port_table.specs.Ports.{new_port}
use Rattle.vsock_device.specs.declared.new_vsock.NewVsock.{NewVsock}

-- the guest's CID
abbrev pub config_of : ℕ → List ℕ
config_of guest_cid = bytes_of 8 guest_cid

-- the port at a start
abbrev pub vsock_port : NewVsock → PortState
vsock_port n = new_port numbers.Vsock 0 (config_of n.guest_cid)
