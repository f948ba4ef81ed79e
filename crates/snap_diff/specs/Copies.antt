-- Copies of a memory, and what a diff changes of one.
use Rattle.std.specs.Prelude.{◌≡◌, ℕ, suc, ◌*◌, ◌<◌, ◌==◌, nat_le, nat_lt, ◌&&◌, Bool, true, false, IsTrue, List, [], ◌∷◌, length}
use Rattle.std.specs.Prelude.{take, drop}
use Rattle.std.specs.List.{flat_map, list_any}
use Rattle.vm_types.specs.declared.identity.Identity.{Identity}
use Rattle.guest_memory.specs.Ram.{page_size}
use Rattle.guest_memory.specs.Memory.{put_at}

-- a whole memory, as a snapshot of this identity has it
pub record MemoryCopy : Type 0 where
  pub identity : Identity
  -- how many pages the memory has
  pub pages : ℕ
  -- the bytes of all its pages
  pub bytes : List ℕ

-- those pages of a memory that were written since another snapshot, the parent
pub record DiffCopy : Type 0 where
  -- how many pages the memory has
  pub pages : ℕ
  pub parent : Identity
  pub identity : Identity
  -- which pages were written
  pub numbers : List ℕ
  -- and the bytes of these, one page behind the other
  pub bytes : List ℕ

-- ---- pages of bytes

abbrev pub page_at : ℕ → List ℕ → List ℕ
page_at number bytes = take page_size (drop (page_size * number) bytes)

-- the pages of these numbers, one behind the other
abbrev pub pages_at : List ℕ → List ℕ → List ℕ
pages_at numbers bytes = flat_map (λ number. page_at number bytes) numbers

-- these pages, one behind the other, in the place of those of these numbers
abbrev pub with_pages : List ℕ → List ℕ → List ℕ → List ℕ
with_pages [] pages bytes = bytes
with_pages (number ∷ numbers) pages bytes =
    with_pages numbers (drop page_size pages) (put_at bytes (page_size * number) (take page_size pages))

-- the diff that has these pages of a copy
abbrev pub diff_of : Identity → MemoryCopy → List ℕ → DiffCopy
diff_of parent m numbers = record {
  pages = m.pages;
  parent = parent;
  identity = m.identity;
  numbers = numbers;
  bytes = pages_at numbers m.bytes;
}

-- ---- overlay

-- the diff is of this copy: it changes the snapshot that the copy is of, and as many pages
pub record Joins (m : MemoryCopy) (d : DiffCopy) : Type 0 where
  pub parent : d.parent ≡ m.identity
  pub pages : d.pages ≡ m.pages

-- the diff's pages in their places, under the diff's identity
abbrev pub overlaid : MemoryCopy → DiffCopy → MemoryCopy
overlaid m d = record { identity = d.identity; pages = m.pages; bytes = with_pages d.numbers d.bytes m.bytes }

-- several, one after another
abbrev pub overlaid_all : MemoryCopy → List DiffCopy → MemoryCopy
overlaid_all m [] = m
overlaid_all m (d ∷ diffs) = overlaid_all (overlaid m d) diffs

-- ---- where diffs come from

-- all of its pages, and no more
abbrev pub IsWhole : MemoryCopy → Type 0
IsWhole m = length m.bytes ≡ page_size * m.pages

-- the numbers rise strictly from this one on, and each is that of a page
abbrev pub rises : ℕ → ℕ → List ℕ → Bool
rises pages low [] = true
rises pages low (number ∷ numbers) =
    nat_le low number && nat_lt number pages && rises pages (suc number) numbers

-- it has pages of a memory in rising order, and the bytes of each
pub record IsDiff (d : DiffCopy) : Type 0 where
  pub rise : IsTrue (rises d.pages 0 d.numbers)
  pub size : length d.bytes ≡ page_size * length d.numbers

-- one of the diff's pages is that of this number
abbrev pub has_page : DiffCopy → ℕ → Bool
has_page d number = list_any (λ n. n == number) d.numbers

-- The second copy was made after the first, and what was written between them is in the diff's pages: the diff has these
-- as the second copy does, and no other page differs.
pub record IsDiffOf (old new : MemoryCopy) (d : DiffCopy) : Type 0 where
  pub pages : new.pages ≡ old.pages
  pub rise : IsTrue (rises d.pages 0 d.numbers)
  pub written : d ≡ diff_of old.identity new d.numbers
  pub others : (number : ℕ) → number < new.pages → has_page d number ≡ false
      → page_at number new.bytes ≡ page_at number old.bytes

-- a diff, and the whole memory as its snapshot found it
pub record DiffStep : Type 0 where
  pub diff : DiffCopy
  pub after : MemoryCopy

-- from a whole copy by diffs, each of the copy before it, to the last copy
abbrev pub LeadBy : MemoryCopy → List DiffStep → MemoryCopy → Type 0
LeadBy first [] last = first ≡ last
LeadBy first (step ∷ steps) last =
    IsWhole step.after × IsDiffOf first step.after step.diff × LeadBy step.after steps last

-- each diff is of what the ones before it make of the copy
abbrev pub JoinAll : MemoryCopy → List DiffCopy → Type 0
JoinAll m [] = Unit {0}
JoinAll m (d ∷ diffs) = Joins m d × JoinAll (overlaid m d) diffs
