-- Which pages acts write, and marks that say so.
use Rattle.std.specs.Prelude.{ℕ, suc, ◌≡◌, ◌==◌, Bool, true, false, ◌&&◌, ◌||◌, if◌then◌else◌, List, [], ◌∷◌, Some, slice_get, slice_set}
use Rattle.vm_types.specs.declared.ids.ActorId.{ActorId}
use Rattle.vm_types.specs.declared.entry.Entry.{Entry}
use Rattle.vm_types.specs.declared.ids.PlaceId.{PlaceId}
use Rattle.vm_types.specs.declared.op.Op.{Op}
use Rattle.vm_types.specs.declared.op.Op.TheVariants.{Write, Amo, Lr, Sc}
use Rattle.vm_types.specs.declared.reply.Reply.{Reply}
use Rattle.vm_types.specs.declared.reply.Reply.TheVariants.{Done, Word}
use Rattle.vm_types.specs.Ids.{same_place}
use Rattle.guest_pages.specs.Pages.{PageValue, page_touch}

-- an act so answered wrote: a write, an atomic operation, a store-conditional that stored
abbrev pub is_written : Op → Reply → Bool
is_written (Write at piece) Done = true
is_written (Amo at value kind wide) (Word old) = true
is_written (Sc at value wide) (Word failed) = failed == 0
is_written op reply = false

-- it left something in its page: it wrote, or a hart has reserved something there
abbrev pub leaves : Op → Reply → Bool
leaves (Lr at wide) (Word old) = true
leaves op reply = is_written op reply

-- a page after acts one after another, and whether one of them wrote it
abbrev pub page_after : PageValue → List (ActorId × Op) → PageValue
page_after p [] = p
page_after p (act ∷ acts) = page_after (page_touch p act.0 act.1).1 acts

abbrev pub is_written_by : PageValue → List (ActorId × Op) → Bool
is_written_by p [] = false
is_written_by p (act ∷ acts) =
    is_written act.1 (page_touch p act.0 act.1).0 || is_written_by (page_touch p act.0 act.1).1 acts

-- the event wrote the page of this number
abbrev pub writes_page : ℕ → Entry → Bool
writes_page i e = same_place e.place (PlaceId.Page i) && is_written e.op e.reply

-- what an act so answered leaves of the marks, by its place
abbrev pub marks_after : PlaceId → List Bool → Op → Reply → List Bool
marks_after (PlaceId.Page i) marks op reply = if is_written op reply then slice_set marks i true else marks
marks_after place marks op reply = marks

-- the numbers of those that are marked, of pages from this number on
abbrev pub marked_from : ℕ → List Bool → List ℕ
marked_from i [] = []
marked_from i (true ∷ marks) = i ∷ marked_from (suc i) marks
marked_from i (false ∷ marks) = marked_from (suc i) marks

-- each of these pages is marked exactly where it was written
abbrev pub AreMarks : List Bool → (ℕ → Bool) → Type 0
AreMarks marks written = (i : ℕ) (marked : Bool) → slice_get marks i ≡ Some marked → marked ≡ written i
