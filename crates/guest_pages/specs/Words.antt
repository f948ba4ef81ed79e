-- Accesses of words: what the page that has their bytes answers, and the pages that they leave.
use Rattle.std.specs.Prelude.{ℕ, Bool, true, false, List, length, map, Option, Some, None, slice_set, slice_index_or}
use Rattle.vm_types.specs.declared.ids.ActorId.{ActorId}
use Rattle.vm_types.specs.declared.ids.PlaceId.{PlaceId}
use Rattle.vm_types.specs.declared.op.Op.{Op}
use Rattle.vm_types.specs.declared.reply.Reply.{Reply}
use Rattle.vm_types.specs.declared.reply.Reply.TheVariants.{AccessFault, Bytes, Done}
use Rattle.le_fields.specs.Fields.{bytes_of}
use Rattle.rv_rows.specs.declared.memory.Width.{Width}
use Rattle.rv_rows.specs.Loads.{width_bytes}
use Rattle.guest_memory.specs.Memory.{Memory, touch}
use Rattle.guest_memory.specs.Route.{access_place}
use Rattle.guest_pages.specs.Pages.{PageValue, flat_of, is_marked_unreserved, page_touch}

-- reads and writes of a word of some width, the lowest byte first
abbrev pub read_of : Width → ℕ → Op
read_of width at = Op.Read at (width_bytes width)

abbrev pub write_of : Width → ℕ → ℕ → Op
write_of width at word = Op.Write at (bytes_of (width_bytes width) word)

-- their replies
abbrev pub read_reply : Width → Option ℕ → Reply
read_reply width None = AccessFault
read_reply width (Some word) = Bytes (bytes_of (width_bytes width) word)

abbrev pub write_reply : Bool → Reply
write_reply false = AccessFault
write_reply true = Done

-- the place of an access in these pages
abbrev pub place_among : List PageValue → Op → PlaceId
place_among pages op = access_place (length (flat_of pages).bytes) op

-- an access is the memory's where a page has its bytes, and else a fault
abbrev pub at_place : PlaceId → Memory → ActorId → Op → Reply × Memory
at_place (PlaceId.Page i) m actor op = touch m actor op
at_place place m actor op = (AccessFault, m)

abbrev pub served : List PageValue → ActorId → Op → Reply × Memory
served pages actor op = at_place (place_among pages op) (flat_of pages) actor op

-- the page at this place is marked, and no hart has anything reserved in it
abbrev pub is_marked_unreserved_at : PlaceId → List PageValue → Bool
is_marked_unreserved_at (PlaceId.Page i) pages = slice_index_or (map is_marked_unreserved pages) i false
is_marked_unreserved_at place pages = false

-- the pages that it leaves, which are the page's act on the page that has its bytes
abbrev pub pages_at : PlaceId → PageValue → List PageValue → ActorId → Op → List PageValue
pages_at (PlaceId.Page i) d pages actor op = slice_set pages i (page_touch (slice_index_or pages i d) actor op).1
pages_at place d pages actor op = pages
