-- What events leave of memory: a page that isn't written is as it was.
use Rattle.std.specs.Prelude.{◌≡◌, ℕ, false, length}
use Rattle.snap_diff.specs.Copies.{page_at}
use Rattle.flat_guest.specs.Guest.{Guest}

-- The second guest is the first after events. There are as many bytes; a page that is unwritten was so before, and has
-- the bytes that it had.
pub record KeepsUnwritten (g h : Guest) : Type 0 where
  pub size : length h.memory.bytes ≡ length g.memory.bytes
  pub unwritten : (i : ℕ) → h.written i ≡ false → g.written i ≡ false
  pub pages : (i : ℕ) → h.written i ≡ false → page_at i h.memory.bytes ≡ page_at i g.memory.bytes
