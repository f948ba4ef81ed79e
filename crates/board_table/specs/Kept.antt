-- The boards that a state file can have, and that what they reply is small.
use Rattle.std.specs.Prelude.{ℕ, ◌≡◌, ◌<◌, ◌≤◌, ◌^◌, length}
use Rattle.std.specs.List.{All}
use Rattle.vm_types.specs.declared.op.Op.{Op}
use Rattle.vm_types.specs.declared.op.BoardOp.{BoardOp}
use Rattle.vm_types.specs.declared.op.BoardOp.TheVariants.{SetTimer, StartHart}
use Rattle.vm_types.specs.declared.reply.Reply.{Reply}
use Rattle.vm_types.specs.declared.reply.Shown.{Shown}
use Rattle.vm_types.specs.declared.reply.Shown.TheVariants.{Start}
use Rattle.le_fields.specs.Fields.{IsByte}
use Rattle.board_table.specs.declared.hart_state.HartState.{HartState}
use Rattle.board_table.specs.declared.hart_state.HartState.TheVariants.{StartPending}
use Rattle.board_table.specs.Board.{Board, ring_size}

-- a number of 64 bits
abbrev pub IsWord : ℕ → Type 0
IsWord n = n < 2 ^ 64

-- the lines, a bit for each
abbrev pub AreLines : ℕ → Type 0
AreLines n = n < 2 ^ 16

abbrev pub IsSmallState : HartState → Type 0
IsSmallState (StartPending pc word) = IsWord pc × IsWord word
IsSmallState state = Unit {0}

-- one item for each of so many harts, no more bytes of the console than its ring holds, and each number of its width
pub record IsKept (harts : ℕ) (b : Board) : Type 0 where
  pub console : length b.console ≤ ring_size
  pub now : IsWord b.now
  pub pending : AreLines b.pending
  pub many_enables : length b.enables ≡ harts
  pub enables : All AreLines b.enables
  pub many_software : length b.software ≡ harts
  pub many_deadlines : length b.deadlines ≡ harts
  pub deadlines : All IsWord b.deadlines
  pub many_states : length b.states ≡ harts
  pub states : All IsSmallState b.states

-- an act gives the board numbers of 64 bits
abbrev pub IsSmallAct : BoardOp → Type 0
IsSmallAct (SetTimer deadline) = IsWord deadline
IsSmallAct (StartHart hart pc word) = IsWord pc × IsWord word
IsSmallAct act = Unit {0}

abbrev pub IsSmallOp : Op → Type 0
IsSmallOp (Op.Board act) = IsSmallAct act
IsSmallOp op = Unit {0}

-- and is replied such numbers, and bytes
abbrev pub IsSmallShown : Shown → Type 0
IsSmallShown (Start pc number word) = IsWord pc × IsWord number × IsWord word
IsSmallShown shown = Unit {0}

abbrev pub IsSmallReply : Reply → Type 0
IsSmallReply (Reply.Word value) = IsWord value
IsSmallReply (Reply.Bytes piece) = All IsByte piece
IsSmallReply (Reply.Returned error value) = IsWord error × IsWord value
IsSmallReply (Reply.Shown shown) = IsSmallShown shown
IsSmallReply reply = Unit {0}

-- the same but for the widths of its numbers
pub record IsLong (harts : ℕ) (b : Board) : Type 0 where
  pub console : length b.console ≤ ring_size
  pub many_enables : length b.enables ≡ harts
  pub many_software : length b.software ≡ harts
  pub many_deadlines : length b.deadlines ≡ harts
  pub many_states : length b.states ≡ harts
