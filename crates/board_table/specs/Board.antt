-- The board: the console ring, whether the guest is off, guest time, interrupt lines, and the state of each hart.
use Rattle.std.specs.Prelude.{ℕ, ◌-◌, ◌^◌, nat_lt, Bool, false, if◌then◌else◌, List, [], length, Option, Some, None, replicate, slice_index_or, slice_set}
use Rattle.vm_types.specs.declared.ids.ActorId.{ActorId}
use Rattle.vm_types.specs.declared.ids.ActorId.TheVariants.{Hart}
use Rattle.board_table.specs.declared.hart_state.HartState.{HartState}
use Rattle.board_table.specs.declared.hart_state.HartState.TheVariants.{Started, Stopped}

-- The console's bytes that were not drained, oldest first. Guest time, in nanoseconds. The interrupt lines that are
-- pending, line k by bit k. And for each hart by its number: the lines that it takes, by the same bits; whether its
-- software interrupt is pending; the moment from which on its timer interrupt is; and whether it runs.
pub record Board : Type 0 where
  pub console : List ℕ
  pub off : Bool
  pub now : ℕ
  pub pending : ℕ
  pub enables : List ℕ
  pub software : List Bool
  pub deadlines : List ℕ
  pub states : List HartState

-- how many bytes the console ring holds
abbrev pub ring_size : ℕ
ring_size = 4096

-- guest time stays at the last moment that there is
abbrev pub last_moment : ℕ
last_moment = 2 ^ 64 - 1

-- the board of a machine that starts with so many harts: hart 0 runs, and all others are stopped
abbrev pub new_board : ℕ → Board
new_board harts = record {
  console = [];
  off = false;
  now = 0;
  pending = 0;
  enables = replicate harts 0;
  software = replicate harts false;
  deadlines = replicate harts last_moment;
  states = slice_set (replicate harts Stopped) 0 Started;
}

-- how many harts there are
abbrev pub hart_count : Board → ℕ
hart_count b = length b.states

-- the number of an actor that is one of them
abbrev pub hart_of : Board → ActorId → Option ℕ
hart_of b (Hart k) = if nat_lt k (hart_count b) then Some k else None
hart_of b actor = None

-- the state of a hart that is there
abbrev pub state_of : Board → ℕ → HartState
state_of b k = slice_index_or b.states k Stopped

abbrev pub with_state : Board → ℕ → HartState → Board
with_state b k state = record b { states = slice_set b.states k state }
