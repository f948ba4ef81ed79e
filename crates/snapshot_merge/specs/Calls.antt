-- The writes of a merge in their order: stages, each of which ends with a sync of the base.
use Rattle.std.specs.Prelude.{ℕ, ◌+◌, ◌*◌, List, [], ◌∷◌, take, drop}
use Rattle.vm_types.specs.declared.identity.Identity.{Identity}
use Rattle.guest_memory.specs.Ram.{page_size}
use Rattle.file_format.specs.Identities.{identity}
use Rattle.snap_diff.specs.Copies.{DiffCopy}
use Rattle.snapshot_merge.specs.declared.merge.Merge.{Merge}
use Rattle.snapshot_merge.specs.declared.merge.Merge.TheVariants.{Begin, GoOn, Finish}

-- ---- what is written, and where

-- the place of the slot of this number
abbrev pub slot_at : ℕ → ℕ
slot_at slot = 64 + 32 * slot

-- the slot is given this identity
abbrev pub naming : ℕ → Identity → ℕ × List ℕ
naming slot i = (slot_at slot, identity.bytes i)

-- the slot's gate is opened
abbrev pub opening : ℕ → ℕ × List ℕ
opening slot = (slot_at slot + 16, 1 ∷ [])

-- the merging byte is set: 1 while a merge is unfinished
abbrev pub marking : ℕ → ℕ × List ℕ
marking value = (32, value ∷ [])

-- each of these pages, one behind the other, in the place of that of its number
abbrev pub page_writes : List ℕ → List ℕ → List (ℕ × List ℕ)
page_writes [] pages = []
page_writes (number ∷ numbers) pages =
    (4096 + page_size * number, take page_size pages) ∷ page_writes numbers (drop page_size pages)

-- ---- the stages

-- the pages, and after them the slot's gate and the merging byte
abbrev pub filling : ℕ → DiffCopy → List (List (ℕ × List ℕ))
filling slot d = page_writes d.numbers d.bytes ∷ (opening slot ∷ []) ∷ (marking 0 ∷ []) ∷ []

-- The base is synced first. A merge from its beginning names its slot before it says that it is unfinished.
abbrev pub stages : Merge → DiffCopy → List (List (ℕ × List ℕ))
stages (Begin slot) d = [] ∷ (naming slot d.identity ∷ []) ∷ (marking 1 ∷ []) ∷ filling slot d
stages (GoOn slot) d = [] ∷ filling slot d
stages Finish d = [] ∷ (marking 0 ∷ []) ∷ []
