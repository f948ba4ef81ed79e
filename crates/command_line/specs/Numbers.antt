-- The number of a command that has one, as `generate N`.
use Rattle.std.specs.Prelude.{ℕ, if◌then◌else◌, List, [], ◌∷◌, codes, Option, None}
use Rattle.std.specs.Str.{bytes_eq}
use Rattle.script_words.specs.Numbers.{number_within}

-- N: decimal digits without a leading zero, of a number of 32 bits
abbrev pub load_number : List ℕ → Option ℕ
load_number word = number_within 0 4294967295 word

-- N alone; the word that ends options may stand before it or behind it
abbrev pub one_number : List (List ℕ) → Option ℕ
one_number [] = None
one_number (word ∷ []) = load_number word
one_number (first ∷ second ∷ []) =
    if bytes_eq first (codes "--") then load_number second
    else (if bytes_eq second (codes "--") then load_number first else None)
one_number (first ∷ second ∷ third ∷ words) = None
