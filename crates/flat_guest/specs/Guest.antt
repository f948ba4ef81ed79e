-- A guest: memory, the board, the ports of its devices, for each hart its registers at the start, for the timer and each
-- hart its steps since, its devices, and which pages were written.
use Rattle.std.specs.Prelude.{ℕ, zero, suc, ◌/◌, nat_lt, Bool, true, false, if◌then◌else◌, List, [], ◌∷◌}
use Rattle.std.specs.Prelude.{Option, Some, None, length, slice_get}
use Rattle.vm_types.specs.declared.ids.ActorId.{ActorId}
use Rattle.vm_types.specs.declared.ids.ActorId.TheVariants.{Timer, Hart, Device}
use Rattle.vm_types.specs.declared.op.Op.{Op}
use Rattle.vm_types.specs.declared.entry.Step.{Step}
use Rattle.guest_memory.specs.Memory.{Memory}
use Rattle.guest_memory.specs.Ram.{page_size}
use Rattle.board_table.specs.Board.{Board}
use Rattle.port_table.specs.declared.state.PortState.{PortState}
use Rattle.rv_supervisor.specs.declared.regs.Regs.{Regs}
use Rattle.hart_trace.specs.Traces.{Continues}
use Rattle.timer_trace.specs.Traces as timer
use Rattle.guest_devices.specs.Devices.{DeviceWants, FlatDevice}
use Rattle.flat_guest.specs.declared.places.Layout.{Layout}

-- The device of a number has the port of that number. What it did stands in its items, and `steps` has none of it.
-- `written` says of each page by its number whether an event wrote it since the guest started, goes on from a snapshot, or
-- was last saved in one.
pub record Guest : Type 0 where
  pub memory : Memory
  pub board : Board
  pub ports : List PortState
  pub starts : List Regs
  pub steps : ActorId → List Step
  pub devices : List FlatDevice
  pub written : ℕ → Bool

-- how many whole pages it has
abbrev pub whole_pages : Memory → ℕ
whole_pages m = length m.bytes / page_size

-- no page was written
abbrev pub none_written : ℕ → Bool
none_written i = false

-- the numbers of those that were written, of so many pages from this one on
abbrev pub numbers_written : (ℕ → Bool) → ℕ → ℕ → List ℕ
numbers_written written i zero = []
numbers_written written i (suc count) =
    if written i then i ∷ numbers_written written (suc i) count else numbers_written written (suc i) count

-- a guest of which no page was written, as one that was saved just now
abbrev pub unwritten : Guest → Guest
unwritten g = record g { written = none_written }

-- the actors that there are: the timer, and the harts and devices by their numbers
abbrev pub is_actor : Guest → ActorId → Bool
is_actor g Timer = true
is_actor g (Hart k) = nat_lt k (length g.starts)
is_actor g (Device k) = nat_lt k (length g.devices)

-- an actor's want is the op that continues its steps to a trace
abbrev pub WantsFrom : Option Regs → List Step → Op → Type 0
WantsFrom None steps op = ⊥
WantsFrom (Some start) steps op = Continues start steps op

abbrev pub WantsOf : Option FlatDevice → Op → Type 0
WantsOf None op = ⊥
WantsOf (Some d) op = DeviceWants d op

abbrev pub Wants : Guest → ActorId → Op → Type 0
Wants g Timer op = timer.Continues (g.steps Timer) op
Wants g (Hart k) op = WantsFrom (slice_get g.starts k) (g.steps (Hart k)) op
Wants g (Device k) op = WantsOf (slice_get g.devices k) op

-- what there is to act on: its memory, and its ports
abbrev pub layout_of : Guest → Layout
layout_of g = record { memory_size = length g.memory.bytes; ports = length g.ports }
