-- Where a path leads in a store.
use Rattle.std.specs.Prelude.{ℕ, ◌==◌, if◌then◌else◌, List, [], ◌∷◌, Option, Some, None, option_and_then}
use Rattle.serde_json.specs.Data.{Data}
use Rattle.serde_json.specs.Find.{get}

-- a byte put before the first key; before none it is one
abbrev pub onto : ℕ → List (List ℕ) → List (List ℕ)
onto c [] = (c ∷ []) ∷ []
onto c (key ∷ keys) = (c ∷ key) ∷ keys

-- The keys of a text, parted by `/`. Behind a closing `/` there is no key, and between two there is an empty one.
abbrev pub keys_of : List ℕ → List (List ℕ)
keys_of [] = []
keys_of (c ∷ text) = if c == 47 then [] ∷ keys_of text else onto c (keys_of text)

-- a path begins with `/`, and `/` alone has no key
abbrev pub path_keys : List ℕ → Option (List (List ℕ))
path_keys [] = None
path_keys (c ∷ text) = if c == 47 then Some (keys_of text) else None

-- the value at each key in turn; only an object has keys
abbrev pub walk : List (List ℕ) → Data → Option Data
walk [] d = Some d
walk (key ∷ keys) d = option_and_then (walk keys) (get key d)

unfoldable pub found : List ℕ → Data → Option Data
found path d = option_and_then (λ keys. walk keys d) (path_keys path)
