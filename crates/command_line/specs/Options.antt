-- The options behind a command's name, `--name VALUE` or `--name=VALUE`.
use Rattle.std.specs.Prelude.{ℕ, ◌==◌, nat_lt, ◌&&◌, Bool, not, if◌then◌else◌, List, [], ◌∷◌, ◌++◌, codes, length, Option, Some, None, find, option_map, option_and_then, slice_index}
use Rattle.std.specs.List.{after_first, before_first, list_any}
use Rattle.std.specs.Str.{bytes_eq}

abbrev pub is_equals : ℕ → Bool
is_equals c = c == 61

-- an option: its name and its value
pub record Given : Type 0 where
  pub name : List ℕ
  pub value : List ℕ

-- a word of its own can be a value where it has a byte and doesn't begin with `-`
abbrev pub is_value : List ℕ → Bool
is_value word = nat_lt 0 (length word) && not (slice_index word 0 == 45)

-- whether an option of this name is given, and its value
abbrev pub is_given : List ℕ → List Given → Bool
is_given name given = list_any (λ option. bytes_eq option.name name) given

abbrev pub value_of : List ℕ → List Given → Option (List ℕ)
value_of name given = option_map (λ option. option.value) (find (λ option. bytes_eq option.name name) given)

-- one option more: its name is one of these, and stands once
abbrev pub with_option : List (List ℕ) → List Given → List ℕ → List ℕ → Option (List Given)
with_option names given name value =
    if list_any (λ known. bytes_eq known name) names && not (is_given name given)
    then Some (given ++ record { name = name; value = value } ∷ []) else None

-- `NAME=VALUE`, where the value has a byte
abbrev pub joined : List (List ℕ) → List Given → List ℕ → Option (List Given)
joined names given word =
    if nat_lt 0 (length (after_first is_equals word))
    then with_option names given (before_first is_equals word) (after_first is_equals word) else None

-- `NAME VALUE`
abbrev pub apart : List (List ℕ) → List Given → List ℕ → List ℕ → Option (List Given)
apart names given name value = if is_value value then with_option names given name value else None

-- The options that these words are, behind those that are given. The last word may be `--`, which ends options.
unfoldable pub options_in : List (List ℕ) → List Given → List (List ℕ) → Option (List Given)
options_in names given [] = Some given
options_in names given (word ∷ []) =
    if bytes_eq word (codes "--") then Some given
    else (if list_any is_equals word then joined names given word else None)
options_in names given (word ∷ next ∷ rest) =
    if list_any is_equals word then option_and_then (λ more. options_in names more (next ∷ rest)) (joined names given word)
    else option_and_then (λ more. options_in names more rest) (apart names given word next)
