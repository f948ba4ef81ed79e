-- What holds of the pages of a set: each has its number, all its bytes, a slot for each hart, and granules inside.
use Rattle.std.specs.Prelude.{ℕ, suc, ◌≡◌, ◌+◌, ◌/◌, ◌<◌, ◌≤◌, Bool, true, false, List, [], ◌∷◌, length, map, slice_index_or, Option, Some, None}
use Rattle.guest_memory.specs.Ram.{page_size}
use Rattle.guest_memory.specs.Reserved.{hart_limit}
use Rattle.guest_pages.specs.Made.{unmade}
use Rattle.guest_pages.specs.Pages.{PageValue, marks_of}

-- granules that are inside a page
abbrev pub AreInside : List (Option ℕ) → Type 0
AreInside [] = Unit {0}
AreInside (None ∷ slots) = AreInside slots
AreInside (Some offset ∷ slots) = (offset + 8 ≤ page_size) × AreInside slots

pub record IsPage (i : ℕ) (p : PageValue) : Type 0 where
  pub numbered : p.number ≡ i
  pub whole : length p.bytes ≡ page_size
  pub slotted : length p.reserved ≡ hart_limit
  pub inside : AreInside p.reserved

-- the pages from this number on
abbrev pub ArePages : ℕ → List PageValue → Type 0
ArePages i [] = Unit {0}
ArePages i (p ∷ ps) = IsPage i p × ArePages (suc i) ps

-- a hart has something reserved
abbrev pub has_reserved : List (Option ℕ) → Bool
has_reserved [] = false
has_reserved (None ∷ slots) = has_reserved slots
has_reserved (Some offset ∷ slots) = true

-- in which of these pages one has
abbrev pub reserved_of : List PageValue → List Bool
reserved_of pages = map (λ p. has_reserved p.reserved) pages

-- it has in none of those from one number up to another
abbrev pub AreFree : List Bool → ℕ → ℕ → Type 0
AreFree reserved from to = (i : ℕ) → from ≤ i → i < to → slice_index_or reserved i false ≡ true → ⊥

-- where a page is marked, so is its block of 64 pages; a block that there isn't counts as marked
abbrev pub AreSummed : List Bool → List Bool → Type 0
AreSummed marks blocks = (i : ℕ) → slice_index_or marks i false ≡ true → slice_index_or blocks (i / 64) true ≡ true

-- with how many of them are made or spare, which blocks are marked, and in which a hart may have something reserved
pub record IsSet (pages : List PageValue) (spare owned : ℕ) (blocks held : List Bool) : Type 0 where
  pub are : ArePages 0 pages
  pub owns : owned + unmade pages ≡ spare + length pages
  pub summed : AreSummed (marks_of pages) blocks
  pub holds : AreSummed (reserved_of pages) held
