-- A memory file is the encoding of a copy.
use Rattle.std.specs.Prelude.{◌≡◌, ℕ, IsTrue, List, ◌++◌}
use Rattle.snap_memory.specs.declared.header.MemHeader.{MemHeader}
use Rattle.snap_memory.specs.Headers.{header, identity_of, is_valid}
use Rattle.snap_diff.specs.Copies.{MemoryCopy, IsWhole}

-- These bytes are a file of this copy, with this header, which says as many pages and has its identity. Whether a merge
-- is unfinished isn't asked.
pub record Holds (given : List ℕ) (head : MemHeader) (m : MemoryCopy) : Type 0 where
  pub fits : header.Fits head
  pub valid : IsTrue (is_valid head)
  pub pages : head.pages ≡ m.pages
  pub identity : identity_of head ≡ m.identity
  pub whole : IsWhole m
  pub bytes : given ≡ header.bytes head ++ m.bytes

-- The file of a copy: one for each such header, with no merge unfinished.
pub record IsMemoryFile (given : List ℕ) (m : MemoryCopy) : Type 0 where
  pub head : MemHeader
  pub holds : Holds given head m
  pub settled : head.merging ≡ 0
