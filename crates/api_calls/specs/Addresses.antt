-- Addresses as texts: that of a network device (VIRTIO 1.2, 5.1.4), and that of metadata in a guest's network.
use Rattle.std.specs.Prelude.{ℕ, ◌+◌, ◌-◌, ◌*◌, ◌^◌, ◌==◌, nat_le, ◌&&◌, Bool, false, if◌then◌else◌, List, [], ◌∷◌, length, map, get_or, take, drop, codes, Option, Some, None, is_some}
use Rattle.std.specs.Char.{is_ascii_hexdigit, to_ascii_lowercase}
use Rattle.std.specs.List.{position}
use Rattle.std.specs.Str.{bytes_eq}
use Rattle.script_words.specs.Numbers.{number_within}
use Rattle.script_words.specs.Words.{behind}

-- ---- of a network device

abbrev pub are_digits : ℕ → ℕ → Bool
are_digits a b = is_ascii_hexdigit a && is_ascii_hexdigit b

-- pairs of hexadecimal digits, with colons between
abbrev pub are_pairs : List ℕ → Bool
are_pairs (a ∷ b ∷ []) = are_digits a b
are_pairs (a ∷ b ∷ c ∷ t) = are_digits a b && (c == 58) && are_pairs t
are_pairs t = false

-- six of them
abbrev pub is_mac : List ℕ → Bool
is_mac t = (length t == 17) && are_pairs t

-- with small letters
abbrev pub lowered : List ℕ → List ℕ
lowered t = map to_ascii_lowercase t

abbrev pub is_small_mac : List ℕ → Bool
is_small_mac t = is_mac t && bytes_eq (lowered t) t

-- ---- its six bytes

-- the value of a hexadecimal digit with small letters; of another byte it is 0
abbrev pub digit_of : ℕ → ℕ
digit_of b =
    if nat_le 48 b && nat_le b 57 then b - 48
    else if nat_le 97 b && nat_le b 102 then b - 87
    else 0

-- the byte whose digits stand from here on
abbrev pub pair_at : List ℕ → ℕ → ℕ
pair_at t n = 16 * digit_of (get_or t n 0) + digit_of (get_or t (n + 1) 0)

-- all six as a number, the first the lowest
abbrev pub mac_number : List ℕ → ℕ
mac_number t =
    pair_at t 0 + 2 ^ 8 * pair_at t 3 + 2 ^ 16 * pair_at t 6 + 2 ^ 24 * pair_at t 9 + 2 ^ 32 * pair_at t 12
    + 2 ^ 40 * pair_at t 15

-- ---- of metadata (RFC 3927, 2.1)

-- 1 to 254 before the point and 0 to 255 behind it, without zeros before them
abbrev pub ends_at : List ℕ → Option ℕ → Bool
ends_at t None = false
ends_at t (Some k) = is_some (number_within 1 254 (take k t)) && is_some (number_within 0 255 (drop (k + 1) t))

abbrev pub is_local : Option (List ℕ) → Bool
is_local None = false
is_local (Some rest) = ends_at rest (position (λ b. b == 46) rest)

-- 169.254.1.0 to 169.254.254.255
abbrev pub is_metadata_address : List ℕ → Bool
is_metadata_address t = is_local (behind (codes "169.254.") t)
