-- How long a request's body is, by its headers (RFC 9112, 6.2 and 6.3).
use Rattle.std.specs.Prelude.{ℕ, ◌&&◌, ◌||◌, Bool, List, [], ◌∷◌, length, map, if◌then◌else◌, nat_lt, nat_le, Result, Ok, Err, codes}
use Rattle.std.specs.List.{list_any, list_all, filter}
use Rattle.std.specs.Char.{is_ascii_digit}
use Rattle.std.specs.Str.{str_eq_ignore_ascii_case}
use Rattle.std.specs.Str.Parse.{digits_value}
use Rattle.refusals.specs.declared.refusal.Refusal.{Refusal}
use Rattle.refusals.specs.declared.refusal.Refusal.TheVariants as refusal

-- a name as it came, and a value without the white space around it
abbrev pub Header : Type 0
Header = List ℕ × List ℕ

-- the limits
abbrev pub most_headers : ℕ
most_headers = 32

abbrev pub longest_body : ℕ
longest_body = 65536

-- the header has that name, in upper or lower case
abbrev pub is_named : List ℕ → Header → Bool
is_named name h = str_eq_ignore_ascii_case h.0 name

-- one decimal digit or more, and nothing else
abbrev pub is_decimal : List ℕ → Bool
is_decimal text = nat_lt 0 (length text) && list_all is_ascii_digit text

-- the number that the text writes
abbrev pub length_value : List ℕ → Result ℕ Refusal
length_value text =
    if is_decimal text then
    if nat_le (digits_value 10 text) longest_body then Ok (digits_value 10 text) else Err refusal.TooLarge
    else Err refusal.BadHead

-- the values of the headers that have that name
abbrev pub values : List ℕ → List Header → List (List ℕ)
values name headers = map (λ h. h.1) (filter (is_named name) headers)

-- by the values of Content-Length: none means no body
abbrev pub length_of : List (List ℕ) → Result ℕ Refusal
length_of [] = Ok 0
length_of (v ∷ []) = length_value v
length_of (v ∷ w ∷ vs) = Err refusal.BadHead

-- the length of the body, or the refusal of the head
unfoldable pub body_length : List Header → Result ℕ Refusal
body_length headers =
    if nat_lt most_headers (length headers) || list_any (is_named (codes "transfer-encoding")) headers
    then Err refusal.BadHead
    else length_of (values (codes "content-length") headers)
