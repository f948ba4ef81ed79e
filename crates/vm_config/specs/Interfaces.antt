-- The network interfaces of a machine, in the order of their first PUT.
use Rattle.std.specs.Prelude.{ℕ, Bool, List}
use Rattle.api_calls.specs.declared.interface.Interface.{Interface}
use Rattle.api_calls.specs.declared.interface.InterfacePatch.{InterfacePatch}
use Rattle.vm_config.specs.Limits.{limited}
use Rattle.vm_config.specs.Named.{has_named, changed_in, put_in}
pub use Rattle.api_calls.specs.Interfaces.{is_interface}

abbrev pub id_of_interface : Interface → List ℕ
id_of_interface i = i.iface_id

-- there is an interface of this id
abbrev pub has_interface : List Interface → List ℕ → Bool
has_interface interfaces id = has_named id_of_interface interfaces id

-- a PUT: it takes the place of the interface of its id, or stands last
abbrev pub put_interface : List Interface → Interface → List Interface
put_interface interfaces interface = put_in id_of_interface interfaces interface

-- a PATCH: what isn't given stays
abbrev pub patched_interface : InterfacePatch → Interface → Interface
patched_interface patch i = record i {
  rx_rate_limiter = limited patch.rx_rate_limiter i.rx_rate_limiter;
  tx_rate_limiter = limited patch.tx_rate_limiter i.tx_rate_limiter;
}

abbrev pub patch_interface : List Interface → InterfacePatch → List Interface
patch_interface interfaces patch = changed_in id_of_interface patch.iface_id (patched_interface patch) interfaces
