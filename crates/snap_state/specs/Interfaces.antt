-- A network interface in a state file.
use Rattle.std.specs.Prelude.{refl}
use Rattle.file_format.specs.Format.{Format}
use Rattle.file_format.specs.Kinds.{text, optional, ◌&◌, made_of}
use Rattle.api_calls.specs.declared.interface.Interface.{Interface}
use Rattle.snap_state.specs.Limits.{limiter}

-- its id, the name of its link, the address of its device, if that is given one, and the limits of what its guest receives and sends,
-- if it has some
unfoldable pub interface : Format Interface
interface =
    made_of
    (λ i. (i.iface_id, (i.host_dev_name, (i.guest_mac, (i.rx_rate_limiter, i.tx_rate_limiter)))))
    (λ (iface_id, (host_dev_name, (guest_mac, (rx_rate_limiter, tx_rate_limiter)))).
    record {
      iface_id = iface_id;
      host_dev_name = host_dev_name;
      guest_mac = guest_mac;
      rx_rate_limiter = rx_rate_limiter;
      tx_rate_limiter = tx_rate_limiter;
    })
    (λ _. refl) (λ _. refl)
    (text & text & optional text & optional limiter & optional limiter)
