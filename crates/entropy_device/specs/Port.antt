-- The port of an entropy device: it offers nothing of its own (VIRTIO 1.2, 5.4.3), and has no configuration (5.4.4).
use Rattle.std.specs.Prelude.{[]}
use Rattle.port_table.specs.declared.kind.DeviceKind.TheVariants.{Entropy}
use Rattle.port_table.specs.declared.state.PortState.{PortState}
use Rattle.port_table.specs.Ports.{new_port}

-- the port at a start
abbrev pub entropy_port : PortState
entropy_port = new_port Entropy 0 []
