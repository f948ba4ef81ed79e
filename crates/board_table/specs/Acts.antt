-- What each act on the board is answered, and what it leaves.
use Rattle.std.specs.Prelude.{ℕ, ◌+◌, ◌^◌, max, min, nat_le, nat_lt, Bool, true, false, ◌&&◌, if◌then◌else◌, length, bit_or}
use Rattle.vm_types.specs.declared.ids.ActorId.{ActorId}
use Rattle.vm_types.specs.declared.ids.ActorId.TheVariants.{Device}
use Rattle.vm_types.specs.declared.op.Op.{Op}
use Rattle.vm_types.specs.declared.op.BoardOp.{BoardOp}
use Rattle.vm_types.specs.declared.op.BoardOp.TheVariants as act
use Rattle.vm_types.specs.declared.reply.Reply.{Reply}
use Rattle.board_table.specs.Board.{Board, hart_of, last_moment}
use Rattle.board_table.specs.Calls.{hart_status, put_byte, reset_by, send_ipi, set_timer, start_hart, stop_hart}
use Rattle.board_table.specs.Pending.{access_sip, look}
use Rattle.board_table.specs.Window.{is_window, window_after, window_bytes}

-- a device's line has the device's number
abbrev pub line_count : ℕ
line_count = 16

abbrev pub raise_line : Board → ActorId → Board
raise_line b (Device k) = if nat_lt k line_count then record b { pending = bit_or b.pending (2 ^ k) } else b
raise_line b actor = b

-- guest time goes on, to the last moment at most, and never back
abbrev pub advance : Board → ℕ → Board
advance b nanoseconds = record b { now = max b.now (min (b.now + nanoseconds) last_moment) }

-- an act, by whom
abbrev pub board_act : Board → ActorId → BoardOp → Reply × Board
board_act b actor act.Look = look b (hart_of b actor)
board_act b actor (act.Putchar byte) = put_byte b byte
board_act b actor (act.Reset kind reason) = reset_by b kind reason
board_act b actor act.Time = (Reply.Word b.now, b)
board_act b actor (act.SoftwarePending clear set) = access_sip b (hart_of b actor) clear set
board_act b actor (act.SetTimer deadline) = set_timer b (hart_of b actor) deadline
board_act b actor (act.SendIpi mask base) = send_ipi b mask base
board_act b actor (act.StartHart hart pc word) = start_hart b hart pc word
board_act b actor act.StopHart = stop_hart b (hart_of b actor)
board_act b actor (act.HartStatus hart) = hart_status b hart
board_act b actor act.RaiseLine = (Reply.Done, raise_line b actor)
board_act b actor (act.Advance nanoseconds) = (Reply.Done, advance b nanoseconds)

-- The registers are read and written. All else is an access fault, and changes nothing. A piece has at most 64 bytes.
abbrev pub touch : Board → ActorId → Op → Reply × Board
touch b actor (Op.Board act) = board_act b actor act
touch b actor (Op.Read at len) =
    if nat_le len 64 && is_window at len then (Reply.Bytes (window_bytes b at len), b) else (Reply.AccessFault, b)
touch b actor (Op.Write at piece) =
    if is_window at (length piece) then (Reply.Done, window_after b at piece) else (Reply.AccessFault, b)
touch b actor op = (Reply.AccessFault, b)

-- the ops that the board answers
abbrev pub is_board_op : Op → Bool
is_board_op (Op.Port port act) = false
is_board_op (Op.Out act) = false
is_board_op Op.Idle = false
is_board_op op = true
