-- Members of an object that are numbers, added one after another.
use Rattle.std.specs.Prelude.{ℕ, List, [], ◌∷◌, Option, Some, None}
use denote.Ref.{Bor}
use Rattle.serde_json.specs.Data.{number, unsigned, Members, no_members, put}

-- one that has none is left out
abbrev pub with_number : List ℕ → Option ℕ → Members → Members
with_number name None ms = ms
with_number name (Some n) ms = put name (number (unsigned n)) ms

abbrev pub and_numbers : List (List ℕ × Option ℕ) → Members → Members
and_numbers [] ms = ms
and_numbers (row ∷ rows) ms = and_numbers rows (with_number row.0 row.1 ms)

abbrev pub numbered : List (List ℕ × Option ℕ) → Members
numbered rows = and_numbers rows no_members

-- a row of the code, whose name is behind a reference
abbrev pub row_of : Bor (List ℕ) × Option ℕ → List ℕ × Option ℕ
row_of row = (row.0.now, row.1)
