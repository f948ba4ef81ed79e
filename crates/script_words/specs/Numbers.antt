-- Numbers and bytes as a script writes them.
use Rattle.std.specs.Prelude.{ℕ, ◌+◌, ◌-◌, ◌*◌, ◌/◌, ◌%◌, ◌^◌, ◌==◌, nat_le, nat_lt, Bool, true, false, ◌&&◌, not, if◌then◌else◌, List, [], ◌∷◌, length, Option, Some, None, option_and_then, fold, flat_map}
use Rattle.std.specs.Char.{digit_value}
use Rattle.std.specs.Fmt.{digits}
use Rattle.std.specs.Int.{w64, from_be_bytes, to_be_bytes}
use Rattle.std.specs.List.{list_all}
use Rattle.std.specs.Str.Parse.{digits_value}
use Rattle.script_words.specs.Words.{after}

abbrev pub is_digit : ℕ → Bool
is_digit c = nat_le 48 c && nat_le c 57

-- the number that decimal digits write
abbrev pub value_of : List ℕ → ℕ
value_of text = fold (λ value c. 10 * value + (c - 48)) 0 text

abbrev pub is_lone : ℕ → List ℕ → Bool
is_lone c [] = true
is_lone c (d ∷ text) = not (c == 48)

-- decimal digits, without a leading zero, of a number that 64 bits hold
abbrev pub number_of : List ℕ → Option ℕ
number_of [] = None
number_of (c ∷ text) =
    if list_all is_digit (c ∷ text) && is_lone c text && nat_lt (value_of (c ∷ text)) (2 ^ 64)
    then Some (value_of (c ∷ text)) else None

-- a lower-case hexadecimal digit
abbrev pub nibble_of : ℕ → Option ℕ
nibble_of c =
    if is_digit c then Some (c - 48) else if nat_le 97 c && nat_le c 102 then Some (c - 87) else None

abbrev pub byte_onto : Option ℕ → Option ℕ → Option (List ℕ) → Option (List ℕ)
byte_onto (Some high) (Some low) (Some bytes) = Some ((16 * high + low) ∷ bytes)
byte_onto high low bytes = None

-- pairs of them
abbrev pub bytes_of : List ℕ → Option (List ℕ)
bytes_of [] = Some []
bytes_of (high ∷ []) = None
bytes_of (high ∷ low ∷ text) = byte_onto (nibble_of high) (nibble_of low) (bytes_of text)

-- two lower-case digits a byte
abbrev pub hex_digit : ℕ → ℕ
hex_digit n = if nat_lt n 10 then 48 + n else 87 + n

abbrev pub hex_of : List ℕ → List ℕ
hex_of bytes = flat_map (λ byte. hex_digit (byte / 16) ∷ hex_digit (byte % 16) ∷ []) bytes

-- a number in these bounds
abbrev pub bounded : ℕ → ℕ → ℕ → Option ℕ
bounded least most n = if nat_le least n && nat_le n most then Some n else None

abbrev pub number_within : ℕ → ℕ → List ℕ → Option ℕ
number_within least most text = option_and_then (bounded least most) (number_of text)

-- behind these bytes, a number that is at most this one
abbrev pub numbered : List ℕ → ℕ → List ℕ → Option ℕ
numbered word most line = after word (number_within 0 most) line

-- sixteen lower-case digits: a word of 64 bits, its most significant digit first
abbrev pub word_by : List ℕ → Option ℕ
word_by bytes = if length bytes == 8 then Some (from_be_bytes w64 bytes) else None

abbrev pub word_of : List ℕ → Option ℕ
word_of text = option_and_then word_by (bytes_of text)

abbrev pub word_text : ℕ → List ℕ
word_text word = hex_of (to_be_bytes w64 word)

-- an address: one to sixteen digits, in lower or upper case, with leading zeros or without
abbrev pub is_hex : ℕ → Bool
is_hex c = nat_lt (digit_value c) 16

abbrev pub is_address : List ℕ → Bool
is_address text = nat_le 1 (length text) && nat_le (length text) 16 && list_all is_hex text

abbrev pub address_of : List ℕ → Option ℕ
address_of text = if is_address text then Some (digits_value 16 text) else None

-- as it is written: in lower case, without leading zeros
abbrev pub address_text : ℕ → List ℕ
address_text address = digits 16 false address
