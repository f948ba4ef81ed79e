-- The device of a network interface: what it starts with.
use Rattle.std.specs.Prelude.{option_map}
use Rattle.api_calls.specs.declared.interface.Interface.{Interface}
use Rattle.api_calls.specs.Addresses.{mac_number}
use Rattle.net_device.specs.declared.new_net.NewNet.{NewNet}
use Rattle.flat_machine.specs.Limits.{limits_of}

-- the address that its driver is told, if it is given one, and its limits
abbrev pub new_net : Interface → NewNet
new_net i = record {
  mac = option_map mac_number i.guest_mac;
  rx = limits_of i.rx_rate_limiter;
  tx = limits_of i.tx_rate_limiter;
}
