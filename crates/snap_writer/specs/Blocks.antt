-- Bytes that are written block by block.
use Rattle.std.specs.Prelude.{ℕ, zero, suc, ◌+◌, List, [], ◌∷◌, length, take, drop}
use Rattle.std.specs.Int.{div_ceil}

-- how many bytes one write carries at most: a mebibyte, which is 256 pages
abbrev pub block_size : ℕ
block_size = 1048576

-- so many blocks of these bytes: the first at this offset, and each right behind the one before
abbrev pub block_writes : ℕ → ℕ → List ℕ → List (ℕ × List ℕ)
block_writes at zero bytes = []
block_writes at (suc count) bytes =
    (at, take block_size bytes) ∷ block_writes (at + block_size) count (drop block_size bytes)

-- all of these bytes from this offset on
abbrev pub writes_at : ℕ → List ℕ → List (ℕ × List ℕ)
writes_at at bytes = block_writes at (div_ceil (length bytes) block_size) bytes
