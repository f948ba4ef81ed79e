-- Several instructions of a hart, one after another, that leave the board and the ports.
use Rattle.std.specs.Prelude.{ℕ, ◌≡◌, ◌<◌, ◌≤◌, ◌+◌, ◌-◌, ◌%◌, ◌^◌, nat_le, true, if◌then◌else◌, List, [], ◌∷◌, Some, length}
use Rattle.vm_types.specs.declared.ids.ActorId.{ActorId}
use Rattle.board_table.specs.Board.{Board}
use Rattle.port_table.specs.declared.state.PortState.{PortState}
use Rattle.guest_memory.specs.Ram.{ram_start}
use Rattle.guest_pages.specs.Marks.{marks_after}
use Rattle.guest_pages.specs.Pages.{PageValue, flat_of, marks_of}
use Rattle.guest_pages.specs.Words.{place_among, read_of, read_reply, served, write_of, write_reply}
use Rattle.hart_trace.specs.States.{Hart, fresh}
use Rattle.rv_doing.specs.Plain.{placed}
use Rattle.rv_rows.specs.declared.memory.LoadKind.{LoadKind}
use Rattle.rv_rows.specs.declared.memory.Width.{Width}
use Rattle.rv_rows.specs.declared.memory.Width.TheVariants.{Word}
use Rattle.rv_rows.specs.Loads.{load_bytes, load_value, load_width, width_bytes}
use Rattle.rv_supervisor.specs.declared.regs.Regs.{Regs}
use Rattle.rv_supervisor.specs.declared.regs.Turn.TheVariants as Turn
use Rattle.rv_supervisor.specs.Ends.{after_jump}
use Rattle.vm_world.specs.Answering.{Goes}
use Rattle.vm_world.specs.declared.burst.Ended.{Ended}
use Rattle.vm_world.specs.declared.burst.Ended.TheVariants.{Accessed, Went}

-- instructions of so many events each
abbrev pub GoesOn : List PageValue → Hart → ActorId → List ℕ → List PageValue → Hart → Type 0
GoesOn pages hart actor [] later next = (later ≡ pages) × (next ≡ hart)
GoesOn pages hart actor (n ∷ ns) later next =
    (mid : List PageValue) × (between : Hart)
    × ((board : Board) (ports : List PortState) → Goes pages board ports hart actor n mid board ports between)
    × GoesOn mid between actor ns later next

abbrev pub total : List ℕ → ℕ
total [] = 0
total (n ∷ ns) = n + total ns

-- and so many events in all
abbrev pub Bursts : List PageValue → Hart → ActorId → ℕ → List PageValue → Hart → Type 0
Bursts pages hart actor made later next = (ns : List ℕ) × (total ns ≡ made) × GoesOn pages hart actor ns later next

-- the registers behind so many instructions, where the pc and the count were held apart
abbrev pub counted : ℕ → ℕ → Regs → Regs
counted made pc r =
    if nat_le r.count made then record r { pc = pc; count = 32; turn = Turn.Look } else record r { pc = pc; count = r.count - made }

-- how many accesses an instruction made that ended so, and where the next one is
abbrev pub accesses_in : Ended → ℕ
accesses_in (Went next) = 0
accesses_in (Accessed next) = 1

abbrev pub next_after : Ended → ℕ
next_after (Went next) = next
next_after (Accessed next) = next

-- pages have this word at this address
abbrev pub HaveWord : List PageValue → ℕ → ℕ → Type 0
HaveWord pages pc word = (actor : ActorId) → read_reply Word (Some word) ≡ (served pages actor (read_of Word pc)).0

-- the hart with these registers at this pc makes an instruction that ends so, however many are left to its next look
abbrev pub EndsSo : List PageValue → ℕ → Regs → ActorId → Ended → List PageValue → Regs → Type 0
EndsSo pages pc r actor ended later s =
    (count : ℕ) (board : Board) (ports : List PortState)
    → Goes pages board ports (fresh (placed pc count Turn.Fetch r)) actor (1 + accesses_in ended) later board ports
    (fresh (after_jump (next_after ended) (placed pc count Turn.Fetch s)))

-- the same, with how many accesses were counted before it and after it, and where the next one is
pub record CountsSo (pages : List PageValue) (pc : ℕ) (r : Regs) (actor : ActorId) (before after next : ℕ) (later : List PageValue) (s : Regs)
    : Type 0 where
  pub ended : Ended
  pub to : next ≡ next_after ended
  pub count : after ≡ before + accesses_in ended
  pub goes : EndsSo pages pc r actor ended later s

-- a load of this kind is aligned, and reads this value in RAM
pub record Loads (pages : List PageValue) (kind : LoadKind) (at value : ℕ) : Type 0 where
  pub aligned : at % load_bytes kind ≡ 0
  pub ram : ram_start ≤ at
  pub word : ℕ
  pub fits : word < 2 ^ 64
  pub loaded : value ≡ load_value kind word
  pub read : (actor : ActorId)
      → read_reply (load_width kind) (Some word) ≡ (served pages actor (read_of (load_width kind) at)).0

-- a store of this width is aligned, and is made in RAM
pub record Stores (pages : List PageValue) (actor : ActorId) (width : Width) (at value : ℕ) (later : List PageValue) : Type 0 where
  pub aligned : at % width_bytes width ≡ 0
  pub ram : ram_start ≤ at
  pub reply : write_reply true ≡ (served pages actor (write_of width at value)).0
  pub memory : flat_of later ≡ (served pages actor (write_of width at value)).1
  pub marks : marks_of later
      ≡ marks_after (place_among pages (write_of width at value)) (marks_of pages) (write_of width at value) (write_reply true)
  pub count : length later ≡ length pages
