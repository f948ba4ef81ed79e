-- Words parted by one space.
use Rattle.std.specs.Prelude.{◌≢◌, ℕ, ◌+◌, ◌==◌, Bool, true, false, if◌then◌else◌, List, [], ◌∷◌, length, take, drop, Option, Some, None, option_and_then, position}
use Rattle.std.specs.List.{All}
use Rattle.std.specs.Str.Lossy.{utf8_valid_len}

-- what is behind these bytes at the front
abbrev pub behind : List ℕ → List ℕ → Option (List ℕ)
behind [] line = Some line
behind (c ∷ word) [] = None
behind (c ∷ word) (d ∷ line) = if c == d then behind word line else None

abbrev pub nothing_behind : Option (List ℕ) → Bool
nothing_behind (Some []) = true
nothing_behind rest = false

-- the line is these bytes and no others
abbrev pub bare : {A : Type 0} → List ℕ → A → List ℕ → Option A
bare word x line = if nothing_behind (behind word line) then Some x else None

-- behind these bytes stands what is read so
abbrev pub after : {A : Type 0} → List ℕ → (List ℕ → Option A) → List ℕ → Option A
after word read line = option_and_then read (behind word line)

-- the first that there is
abbrev pub or_else : {A : Type 0} → Option A → Option A → Option A
or_else (Some x) y = Some x
or_else None y = y

-- the bytes before the first space, and those behind it
abbrev pub parted : List ℕ → Option ℕ → Option (List ℕ × List ℕ)
parted line (Some i) = Some (take i line, drop (i + 1) line)
parted line None = None

abbrev pub cut : List ℕ → Option (List ℕ × List ℕ)
cut line = parted line (position (λ c. c == 32) line)

abbrev pub both : {X Y Z : Type 0} → (X → Y → Z) → Option X → Option Y → Option Z
both make (Some x) (Some y) = Some (make x y)
both make x y = None

abbrev pub both_of : {X Y Z : Type 0} → (List ℕ → Option X) → (List ℕ → Option Y) → (X → Y → Z)
    → Option (List ℕ × List ℕ) → Option Z
both_of word rest make (Some parts) = both make (word parts.0) (rest parts.1)
both_of word rest make None = None

-- a word, a space and the rest
abbrev pub two : {X Y Z : Type 0} → (List ℕ → Option X) → (List ℕ → Option Y) → (X → Y → Z) → List ℕ → Option Z
two word rest make line = both_of word rest make (cut line)

-- one byte or more
abbrev pub some_word : List ℕ → Option (List ℕ)
some_word word = if length word == 0 then None else Some word

-- the bytes are UTF-8 (Unicode, table 3-7)
abbrev pub is_text : List ℕ → Bool
is_text bytes = utf8_valid_len bytes == length bytes

abbrev pub text_of : List ℕ → Option (List ℕ)
text_of bytes = if is_text bytes then Some bytes else None

-- a file's name: a word that is UTF-8
abbrev pub name_of : List ℕ → Option (List ℕ)
name_of word = option_and_then text_of (some_word word)

-- none of the bytes is this one
abbrev pub Lacks : ℕ → List ℕ → Type 0
Lacks c bytes = All (λ byte. byte ≢ c) bytes
