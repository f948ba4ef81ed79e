-- Pages that are made, and blanks from which others can be.
use Rattle.std.specs.Prelude.{ℕ, ◌≡◌, ◌+◌, ◌≤◌, ◌==◌, nat_le, min, Bool, true, false, not, if◌then◌else◌, ◌&&◌, ◌||◌, List, map, slice_index_or}
use Rattle.std.specs.List.{count_by, list_all}
use Rattle.vm_types.specs.declared.ids.PlaceId.{PlaceId}
use Rattle.guest_pages.specs.Pages.{PageValue}

-- the pages of a memory, and how many blanks there are, of each of which one can be made
pub record PagesValue : Type 0 where
  pub pages : List PageValue
  pub spare : ℕ

abbrev pub made_of : List PageValue → List Bool
made_of pages = map (λ p. p.made) pages

-- one that there isn't counts as made
abbrev pub is_made : List PageValue → ℕ → Bool
is_made pages i = slice_index_or (made_of pages) i true

-- how many of them aren't made
abbrev pub unmade : List PageValue → ℕ
unmade pages = count_by (λ p. not p.made) pages

abbrev pub are_zeros : List ℕ → Bool
are_zeros piece = list_all (λ byte. byte == 0) piece

-- a page is made, or can be
abbrev pub CanMake : PageValue → ℕ → Type 0
CanMake p spare = p.made ≡ false → 1 ≤ spare

-- it took a blank exactly where it was made now, and one that is made stays so
pub record Takes (old new : PageValue) (had has : ℕ) : Type 0 where
  pub blank : had ≡ (if not old.made && new.made then has + 1 else has)
  pub stays : old.made ≡ true → new.made ≡ true

-- the page of this place is made, or a spare is there
abbrev pub is_ready : PagesValue → PlaceId → Bool
is_ready s (PlaceId.Page i) = is_made s.pages i || nat_le 1 s.spare
is_ready s place = true

-- there is room for so many acts, whatever their pages are
pub record HasRoom (acts : ℕ) (s : PagesValue) : Type 0 where
  pub enough : min acts (unmade s.pages) ≤ s.spare

-- what so many acts take at most: each page that they make takes a spare, and one that is made stays so
pub record Spends (n : ℕ) (old new : PagesValue) : Type 0 where
  pub kept : old.spare + unmade new.pages ≡ new.spare + unmade old.pages
  pub most : old.spare ≤ new.spare + n
  pub stays : (i : ℕ) → is_made old.pages i ≡ true → is_made new.pages i ≡ true
