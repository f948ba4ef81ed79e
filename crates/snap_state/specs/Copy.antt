-- What a copy keeps of a machine that is on: how its board and its harts are those of the machine's definition.
use Rattle.std.specs.Prelude.{ℕ, false, List, map}
use Rattle.board_table.specs.Board.{Board}
use Rattle.hart_trace.specs.States.{Hart}
use Rattle.snap_harts.specs.Copy.{hart_of}
use Rattle.snap_state.specs.declared.board.SavedBoard.{SavedBoard}
use Rattle.snap_state.specs.declared.copy.StateCopy.{StateCopy}

abbrev pub harts_of : StateCopy → List Hart
harts_of c = map hart_of c.harts

-- ---- the board, which is on

abbrev pub board_at : ℕ → SavedBoard → Board
board_at now b = record {
  console = b.console;
  off = false;
  now = now;
  pending = b.pending;
  enables = b.enables;
  software = b.software;
  deadlines = b.deadlines;
  states = b.states;
}

abbrev pub board_of : StateCopy → Board
board_of c = board_at c.guest_time c.board

-- ---- and back: the copy of a board that is on

abbrev pub saved_board : Board → SavedBoard
saved_board b = record {
  pending = b.pending;
  enables = b.enables;
  software = b.software;
  deadlines = b.deadlines;
  states = b.states;
  console = b.console;
}
