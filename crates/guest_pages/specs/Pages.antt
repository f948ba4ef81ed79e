-- One page of guest memory, and all of them as the one memory of the definition.
use Rattle.std.specs.Prelude.{ℕ, zero, suc, replicate, ◌+◌, ◌-◌, ◌*◌, ◌==◌, nat_le, Bool, true, false, ◌&&◌, if◌then◌else◌, List, [], ◌∷◌, length, map, take, drop, Option, Some, None, is_some, slice_set}
use Rattle.std.specs.List.{count_by, flat_map}
use Rattle.vm_types.specs.declared.ids.ActorId.{ActorId}
use Rattle.vm_types.specs.declared.op.Op.{Op}
use Rattle.vm_types.specs.declared.op.Op.TheVariants.{Read, Write, Amo, Lr, Sc}
use Rattle.vm_types.specs.declared.reply.Reply.{Reply}
use Rattle.vm_types.specs.declared.reply.Reply.TheVariants.{Done, Bytes, Word, AccessFault}
use Rattle.guest_memory.specs.Amo.{amo_value}
use Rattle.guest_memory.specs.Memory.{Memory, put_at}
use Rattle.guest_memory.specs.Ram.{ram_start, page_size}
use Rattle.guest_memory.specs.Reserved.{hart_limit, unreserved, granule_of, held_by, holding, is_granule, slots_after}
use Rattle.guest_memory.specs.Words.{width_of, word_of, word_bytes}

-- a page: its number, its bytes, for each hart what it has reserved here, whether it is marked, and whether it is made, which takes
-- memory: one that isn't reads as zeros
pub record PageValue : Type 0 where
  pub number : ℕ
  pub bytes : List ℕ
  pub reserved : List (Option ℕ)
  pub marked : Bool
  pub made : Bool

-- the guest address of a page
abbrev pub page_start : ℕ → ℕ
page_start i = ram_start + page_size * i

-- marked, and no hart has anything reserved in it: a write changes its bytes alone
abbrev pub is_marked_unreserved : PageValue → Bool
is_marked_unreserved p = p.marked && count_by is_some p.reserved == 0

-- these bytes, one at least, are in the page of this number and size
abbrev pub is_within : ℕ → ℕ → ℕ → ℕ → Bool
is_within i size at len = nat_le 1 len && nat_le (page_start i) at && nat_le (at - page_start i + len) size

abbrev pub page_read : PageValue → ℕ → ℕ → List ℕ
page_read p at len = take len (drop (at - page_start p.number) p.bytes)

abbrev pub page_word : PageValue → ℕ → Bool → ℕ
page_word p at wide = word_of wide (page_read p at (width_of wide))

-- a write also marks the page, whatever the bytes, and makes it
abbrev pub page_written : PageValue → ActorId → ℕ → List ℕ → PageValue
page_written p writer at piece = record p {
  bytes = put_at p.bytes (at - page_start p.number) piece;
  reserved = slots_after writer at (length piece) (hart_limit * p.number) p.reserved;
  marked = true;
  made = true;
}

abbrev pub page_reserving : PageValue → ActorId → Option ℕ → PageValue
page_reserving p actor held = record p { reserved = holding p.reserved 0 actor held }

-- what is reserved is kept in a page that is made
abbrev pub page_made : PageValue → PageValue
page_made p = record p { made = true }

abbrev pub page_stored : PageValue → ActorId → ℕ → List ℕ → Reply × PageValue
page_stored p actor at piece =
    if is_granule (granule_of at) (held_by p.reserved 0 actor)
    then (Word 0, page_reserving (page_written p actor at piece) actor None)
    else (Word 1, page_reserving p actor None)

-- what an act on a page is answered, and what it leaves
abbrev pub page_touch : PageValue → ActorId → Op → Reply × PageValue
page_touch p actor (Read at len) =
    if nat_le len 64 && is_within p.number (length p.bytes) at len
    then (Bytes (page_read p at len), p) else (AccessFault, p)
page_touch p actor (Write at piece) =
    if is_within p.number (length p.bytes) at (length piece)
    then (Done, page_written p actor at piece) else (AccessFault, p)
page_touch p actor (Amo at value kind wide) =
    if is_within p.number (length p.bytes) at (width_of wide)
    then (
      Word (page_word p at wide),
      page_written p actor at (word_bytes wide (amo_value kind wide (page_word p at wide) value)),
    )
    else (AccessFault, p)
page_touch p actor (Lr at wide) =
    if is_within p.number (length p.bytes) at (width_of wide)
    then (Word (page_word p at wide), page_made (page_reserving p actor (Some (granule_of at)))) else (AccessFault, p)
page_touch p actor (Sc at value wide) =
    if is_within p.number (length p.bytes) at (width_of wide)
    then page_stored p actor at (word_bytes wide value) else (AccessFault, p)
page_touch p actor op = (AccessFault, p)

-- a page of zeros that isn't made, in which nothing is reserved
abbrev pub new_page : ℕ → PageValue
new_page i =
    record { number = i; bytes = replicate page_size 0; reserved = unreserved 1; marked = false; made = false }

-- the same, made
abbrev pub made_page : ℕ → PageValue
made_page i = page_made (new_page i)

-- so many of them from this number on
abbrev pub new_pages : ℕ → ℕ → List PageValue
new_pages i zero = []
new_pages i (suc count) = new_page i ∷ new_pages (suc i) count

-- no mark; other bytes; another reservation of a hart: these mark nothing
abbrev pub unmarked : PageValue → PageValue
unmarked p = record p { marked = false }

abbrev pub filled : List ℕ → PageValue → PageValue
filled bytes p = record p { bytes = bytes }

abbrev pub patched : ℕ → List ℕ → PageValue → PageValue
patched offset piece p = record p { bytes = put_at p.bytes offset piece }

abbrev pub cleared : List PageValue → List PageValue
cleared pages = map unmarked pages

abbrev pub page_holding : ℕ → ℕ → PageValue → PageValue
page_holding hart offset p = record p { reserved = slice_set p.reserved hart (Some offset); made = true }

-- the one memory that pages are: their bytes and their slots, one page's after the other's
abbrev pub flat_of : List PageValue → Memory
flat_of pages = record { bytes = flat_map (λ p. p.bytes) pages; reserved = flat_map (λ p. p.reserved) pages }

-- a memory of so many pages of zeros, in which nothing is reserved
abbrev pub empty_memory : ℕ → Memory
empty_memory pages = record { bytes = replicate (page_size * pages) 0; reserved = unreserved pages }

-- a block put into memory, by no act
abbrev pub loaded : ℕ → List ℕ → Memory → Memory
loaded offset block m = record m { bytes = put_at m.bytes offset block }

-- a granule at this offset reserved in a slot, by no act
abbrev pub held_at : ℕ → ℕ → Memory → Memory
held_at slot offset m = record m { reserved = slice_set m.reserved slot (Some offset) }

abbrev pub marks_of : List PageValue → List Bool
marks_of pages = map (λ p. p.marked) pages
