-- The port of a network device: what it offers (VIRTIO 1.2, 5.1.3), and its configuration (5.1.4).
use Rattle.std.specs.Prelude.{ℕ, Option, Some, None, List, unwrap_or}
use Rattle.le_fields.specs.Fields.{bytes_of}
use Rattle.port_table.specs.declared.kind.DeviceKind.TheVariants.{Net}
use Rattle.port_table.specs.declared.kind.Feature.TheVariants.{NetMac}
use Rattle.port_table.specs.declared.state.PortState.{PortState}
use Rattle.port_table.specs.Kinds.{feature_mask}
use Rattle.port_table.specs.Ports.{new_port}
use Rattle.net_device.specs.declared.new_net.NewNet.{NewNet}

-- a MAC address, where the device is given one
abbrev pub mac_offered : Option ℕ → ℕ
mac_offered None = 0
mac_offered (Some mac) = feature_mask NetMac

abbrev pub offered : NewNet → ℕ
offered n = mac_offered n.mac

-- the six bytes of the address, or zeros; the two bytes behind them are no register
abbrev pub config_of : Option ℕ → List ℕ
config_of mac = bytes_of 8 (unwrap_or mac 0)

-- the port at a start
abbrev pub net_port : NewNet → PortState
net_port n = new_port Net (offered n) (config_of n.mac)
