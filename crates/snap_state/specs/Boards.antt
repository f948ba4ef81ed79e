-- The board in a state file.
use Rattle.std.specs.Prelude.{refl}
use Rattle.file_format.specs.Format.{Format}
use Rattle.file_format.specs.Kinds.{number16, number64, flag, byte_list, list_of, ◌&◌, made_of}
use Rattle.snap_harts.specs.HartStates.{hart_state}
use Rattle.snap_state.specs.declared.board.SavedBoard.{SavedBoard}

-- the pending lines, bit k line k; of each hart the lines that it takes, its software bit, its deadline and its state;
-- the bytes of the console
unfoldable pub board : Format SavedBoard
board =
    made_of (λ b. (b.pending, (b.enables, (b.software, (b.deadlines, (b.states, b.console))))))
    (λ (pending, (enables, (software, (deadlines, (states, console))))).
    record {
      pending = pending;
      enables = enables;
      software = software;
      deadlines = deadlines;
      states = states;
      console = console;
    })
    (λ _. refl) (λ _. refl)
    (number16 & list_of number16 & list_of flag & list_of number64 & list_of hart_state & byte_list)
