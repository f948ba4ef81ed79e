-- A network interface by its id.
use Rattle.std.specs.Prelude.{ℕ, Bool, List}
use Rattle.std.specs.Str.{bytes_eq}
use Rattle.api_calls.specs.declared.interface.Interface.{Interface}

-- the interface has this id
abbrev pub is_interface : List ℕ → Interface → Bool
is_interface id interface = bytes_eq interface.iface_id id
