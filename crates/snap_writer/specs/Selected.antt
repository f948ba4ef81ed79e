-- The pages of a memory that are written.
use Rattle.std.specs.Prelude.{ℕ, nat_le, nat_lt, Bool, true, ◌&&◌, List, length, Option, Some, None}
use Rattle.std.specs.List.{list_all}
use Rattle.snap_diff.specs.Copies.{pages_at}

-- their bytes, one page behind the other: of all, or of those of these numbers
abbrev pub selected : Option (List ℕ) → List ℕ → List ℕ
selected None bytes = bytes
selected (Some numbers) bytes = pages_at numbers bytes

-- each is the number of a page, and there are no more of them than pages
abbrev pub are_there : List ℕ → ℕ → Bool
are_there numbers count = nat_le (length numbers) count && list_all (λ n. nat_lt n count) numbers

abbrev pub can_select : Option (List ℕ) → ℕ → Bool
can_select None count = true
can_select (Some numbers) count = are_there numbers count
