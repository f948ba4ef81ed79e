-- The id of a machine.
use Rattle.std.specs.Prelude.{ℕ, ◌==◌, nat_le, nat_lt, ◌&&◌, ◌||◌, Bool, if◌then◌else◌, List, codes, length, Option, Some, None}
use Rattle.std.specs.List.{list_all}

-- of one that is given none
abbrev pub default_id : List ℕ
default_id = codes "anonymous-instance"

-- a letter or digit of ASCII, or `-`
abbrev pub is_id_byte : ℕ → Bool
is_id_byte c =
    (nat_le 48 c && nat_le c 57) || (nat_le 65 c && nat_le c 90) || (nat_le 97 c && nat_le c 122) || c == 45

-- an id has 1 to 64 of them
abbrev pub is_id : List ℕ → Bool
is_id id = nat_lt 0 (length id) && nat_le (length id) 64 && list_all is_id_byte id

-- the id of a machine that is given this one, or none
abbrev pub machine_id : Option (List ℕ) → Option (List ℕ)
machine_id None = Some default_id
machine_id (Some id) = if is_id id then Some id else None
