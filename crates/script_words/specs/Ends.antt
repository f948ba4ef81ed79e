-- Where the first line ends.
use Rattle.std.specs.Prelude.{◌≡◌, ◌≢◌, ◌<◌, ◌≤◌, ℕ, List, length, slice_index}

-- none of the first bytes, so many, is an LF
abbrev pub LacksEnd : List ℕ → ℕ → Type 0
LacksEnd text count = (k : ℕ) → k < count → slice_index text k ≢ 10

-- the first LF is there, or that is the whole length and there is none
pub record StopsAt (text : List ℕ) (end : ℕ) : Type 0 where
  pub within : end ≤ length text
  pub lacks : LacksEnd text end
  pub stops : end < length text → slice_index text end ≡ 10
