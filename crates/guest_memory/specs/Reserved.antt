-- What harts have reserved by load-reserved (unprivileged manual, 8.2). There is a slot for each hart in each
-- page, in the order of pages and in each of harts: the offset in the page of a granule, which is 8 bytes at an
-- address that 8 divides, or none. So a hart has at most one granule in each page.
use Rattle.std.specs.Prelude.{ℕ, suc, ◌+◌, ◌*◌, ◌/◌, ◌%◌, ◌==◌, nat_le, nat_lt, Bool, false, ◌&&◌, not, if◌then◌else◌, List, [], ◌∷◌, Option, Some, None, replicate, slice_set, slice_index_or}
use Rattle.vm_types.specs.declared.ids.ActorId.{ActorId}
use Rattle.vm_types.specs.declared.ids.ActorId.TheVariants.{Hart}
use Rattle.vm_types.specs.Ids.{same_actor}
use Rattle.guest_memory.specs.Ram.{ram_start, page_size, page_number, page_offset}

-- a machine has at most 32 harts
abbrev pub hart_limit : ℕ
hart_limit = 32

-- so many pages in which nothing is reserved
unfoldable pub unreserved : ℕ → List (Option ℕ)
unreserved pages = replicate (hart_limit * pages) None

-- the first slot of the page of an address
abbrev pub first_slot : ℕ → ℕ
first_slot at = hart_limit * page_number at

-- the granule that an address is in, by its offset in the page
abbrev pub granule_of : ℕ → ℕ
granule_of at = page_offset at / 8 * 8

-- what an actor has reserved in the page with this first slot; one that is no hart reserves nothing
abbrev pub held_by : List (Option ℕ) → ℕ → ActorId → Option ℕ
held_by slots first (Hart k) = if nat_lt k hart_limit then slice_index_or slots (first + k) None else None
held_by slots first actor = None

-- and the slots where it has this there
abbrev pub holding : List (Option ℕ) → ℕ → ActorId → Option ℕ → List (Option ℕ)
holding slots first (Hart k) held = if nat_lt k hart_limit then slice_set slots (first + k) held else slots
holding slots first actor held = slots

-- what is held is this granule
abbrev pub is_granule : ℕ → Option ℕ → Bool
is_granule offset None = false
is_granule offset (Some held) = held == offset

-- bytes at an address have one in the 8 from there on
abbrev pub reaches : ℕ → ℕ → ℕ → Bool
reaches at len granule = nat_le 1 len && nat_lt at (granule + 8) && nat_lt granule (at + len)

-- the guest address of a granule that is held in a slot
abbrev pub granule_start : ℕ → ℕ → ℕ
granule_start slot offset = ram_start + page_size * (slot / hart_limit) + offset

-- what a write leaves of a slot: it ends the granules that it reaches, but for the writer's own
abbrev pub slot_after : ActorId → ℕ → ℕ → ℕ → Option ℕ → Option ℕ
slot_after writer at len slot None = None
slot_after writer at len slot (Some offset) =
    if reaches at len (granule_start slot offset) && not (same_actor (Hart (slot % hart_limit)) writer)
    then None else Some offset

-- and of slots, from this number on
abbrev pub slots_after : ActorId → ℕ → ℕ → ℕ → List (Option ℕ) → List (Option ℕ)
slots_after writer at len slot [] = []
slots_after writer at len slot (held ∷ rest) =
    slot_after writer at len slot held ∷ slots_after writer at len (suc slot) rest
