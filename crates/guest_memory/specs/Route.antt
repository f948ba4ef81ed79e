-- The page where an access acts.
use Rattle.std.specs.Prelude.{ℕ, ◌+◌, nat_le, ◌&&◌, if◌then◌else◌, length}
use Rattle.vm_types.specs.declared.ids.PlaceId.{PlaceId}
use Rattle.vm_types.specs.declared.op.Op.{Op}
use Rattle.guest_memory.specs.Ram.{is_ram, page_size, page_number, page_offset}
use Rattle.guest_memory.specs.Words.{width_of}

-- the page that has all of these bytes, which are one at least, in a memory of this size
abbrev pub page_of : ℕ → ℕ → ℕ → PlaceId
page_of size at len =
    if nat_le 1 len && is_ram size at len && nat_le (page_offset at + len) page_size
    then PlaceId.Page (page_number at) else PlaceId.Out

-- the place of an access; what is none has no page
abbrev pub access_place : ℕ → Op → PlaceId
access_place size (Op.Read at len) = page_of size at len
access_place size (Op.Write at piece) = page_of size at (length piece)
access_place size (Op.Amo at value kind wide) = page_of size at (width_of wide)
access_place size (Op.Lr at wide) = page_of size at (width_of wide)
access_place size (Op.Sc at value wide) = page_of size at (width_of wide)
access_place size op = PlaceId.Out
