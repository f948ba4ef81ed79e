-- What an act is answered where it acts, and what it leaves there.
use Rattle.std.specs.Prelude.{ℕ, ◌≡◌, ◌⊎◌, nat_lt, Bool, false, List, length}
use Rattle.vm_types.specs.declared.ids.ActorId.{ActorId}
use Rattle.vm_types.specs.declared.ids.PlaceId.{PlaceId}
use Rattle.vm_types.specs.declared.op.Op.{Op}
use Rattle.vm_types.specs.declared.reply.Reply.{Reply}
use Rattle.board_table.specs.Board.{Board}
use Rattle.port_table.specs.declared.state.PortState.{PortState}
use Rattle.guest_memory.specs.Ram.{ram_start}
use Rattle.guest_pages.specs.Marks.{marks_after}
use Rattle.guest_pages.specs.Pages.{PageValue, flat_of, marks_of}
use Rattle.rv_doing.specs.declared.hart_op.HartOp.{HartOp}
use Rattle.rv_doing.specs.declared.hart_op.HartOp.TheVariants.{Fetch, Read, Write}
use Rattle.hart_trace.specs.States.{Hart, hart_next, hart_wants}
use Rattle.flat_guest.specs.Body.{reply_at}
use Rattle.flat_guest.specs.Given.Given.{Nothing}
use Rattle.flat_guest.specs.Places.{place_of}
use Rattle.flat_guest.specs.Steps.{board_after, memory_after, ports_after}

-- where an op acts: these pages are all memory
abbrev pub place_with : List PageValue → List PortState → Op → PlaceId
place_with pages ports op = place_of (record { memory_size = length (flat_of pages).bytes; ports = length ports }) op

-- the reply is the place's, and so is what becomes of the pages, which are as many, of their marks, of the board and of the
-- ports
pub record IsAnswered (pages : List PageValue) (board : Board) (ports : List PortState) (actor : ActorId) (op : Op) (reply : Reply)
    (later : List PageValue) (after : Board) (behind : List PortState) : Type 0 where
  pub reply_is : reply ≡ reply_at (place_with pages ports op) (flat_of pages) board ports actor op Nothing
  pub memory_is : flat_of later ≡ memory_after (place_with pages ports op) (flat_of pages) actor op
  pub marks_is : marks_of later ≡ marks_after (place_with pages ports op) (marks_of pages) op reply
  pub board_is : after ≡ board_after (place_with pages ports op) board actor op
  pub ports_are : behind ≡ ports_after (place_with pages ports op) ports actor op
  pub count_is : length later ≡ length pages

-- a hart's next event: what it wants is answered, and it goes on by the reply
abbrev pub Advances : List PageValue → Board → List PortState → Hart → ActorId → List PageValue → Board → List PortState
    → Hart → Type 0
Advances pages board ports hart actor later after behind next =
    (reply : Reply) × IsAnswered pages board ports actor (hart_wants hart) reply later after behind
    × (next ≡ hart_next hart reply)

-- one event of a hart, or two: the fetch of an instruction, which leaves pages, board and ports, and its access
abbrev pub Goes : List PageValue → Board → List PortState → Hart → ActorId → ℕ → List PageValue → Board → List PortState
    → Hart → Type 0
Goes pages board ports hart actor made later after behind next =
    ((made ≡ 1) × Advances pages board ports hart actor later after behind next)
    ⊎ ((made ≡ 2) × (mid : Hart) × Advances pages board ports hart actor pages board ports mid
    × Advances pages board ports mid actor later after behind next)

-- an access below RAM, where the board's registers are
abbrev pub is_low : HartOp → Bool
is_low (Fetch pc) = nat_lt pc ram_start
is_low (Read at width) = nat_lt at ram_start
is_low (Write at word width) = nat_lt at ram_start
is_low op = false
