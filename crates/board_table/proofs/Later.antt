-- Guest time never goes back.
use Rattle.std.proofs.Common.{◌≡◌, ◌≤◌, ℕ, ◌+◌, ◌-◌, ◌%◌, ◌^◌, ◌==◌, ◌&&◌, max, min, Bool, true, false, if◌then◌else◌, nat_le, nat_lt, ◌∷◌, [], ◌++◌, List, Option, Some, None, length, arith, slice_set, bit_and, bit_or}
use Rattle.std.specs.Int.{bit_not, w16}
use Rattle.vm_types.specs.declared.ids.ActorId.{ActorId}
use Rattle.vm_types.specs.declared.op.Op.{Op}
use Rattle.vm_types.specs.declared.op.BoardOp.{BoardOp}
use Rattle.vm_types.specs.declared.op.BoardOp.TheVariants as act
use Rattle.vm_types.specs.declared.reply.Reply.{Reply}
use Rattle.le_fields.specs.Fields.{little_endian}
use Rattle.board_table.specs.declared.hart_state.HartState.{HartState}
use Rattle.board_table.specs.declared.hart_state.HartState.TheVariants.{Started, Stopped, StartPending}
use Rattle.board_table.specs.Acts.{board_act, line_count, raise_line, touch}
use Rattle.board_table.specs.Board.{Board, hart_count, hart_of, last_moment, ring_size, state_of}
use Rattle.board_table.specs.Calls.{invalid_parameter, is_reset_allowed, names_harts_alone, refused, sent_from, set_timer, start_as, status_number, stop_hart, succeeded}
use Rattle.board_table.specs.Pending.{access_sip, look, look_as}
use Rattle.board_table.specs.Window.{enables_start, hart_at, is_register, is_window, register_after, window_after, window_bytes, window_start}

-- what the code adds is what the definition says, where the moment is one that there is
pub goes_on : (now nanoseconds : ℕ) → now ≤ last_moment → max now (min (now + nanoseconds) last_moment) ≡ min (now + nanoseconds) last_moment
goes_on now nanoseconds there = omega (arith, there)

module _ (b : Board) where
  abbrev IsLater : Board → Type 0
  IsLater c = b.now ≤ c.now

  same : IsLater b
  same = omega arith

  board_by : (t : Bool) (x y : Board) → IsLater x → IsLater y → IsLater (if t then x else y)
  board_by true x y first second = first
  board_by false x y first second = second

  either : (t : Bool) (x y : Reply × Board) → IsLater x.1 → IsLater y.1 → IsLater (if t then x else y).1
  either true x y first second = first
  either false x y first second = second

  looked_as : (state : HartState) (k : ℕ) → IsLater (look_as state b k).1
  looked_as Started k = same
  looked_as Stopped k = same
  looked_as (StartPending pc word) k = same

  looked : (hart : Option ℕ) → IsLater (look b hart).1
  looked None = same
  looked (Some k) = looked_as (state_of b k) k

  accessed : (hart : Option ℕ) (clear set : ℕ) → IsLater (access_sip b hart clear set).1
  accessed None clear set = same
  accessed (Some k) clear set = same

  timed : (hart : Option ℕ) (deadline : ℕ) → IsLater (set_timer b hart deadline).1
  timed None deadline = same
  timed (Some k) deadline = same

  started_as : (state : HartState) (k pc word : ℕ) → IsLater (start_as state b k pc word).1
  started_as Started k pc word = same
  started_as Stopped k pc word = same
  started_as (StartPending from with) k pc word = same

  stopped : (hart : Option ℕ) → IsLater (stop_hart b hart).1
  stopped None = same
  stopped (Some k) = same

  pub raised_later : (actor : ActorId) → IsLater (raise_line b actor)
  raised_later (ActorId.Device k) = board_by (nat_lt k line_count) (record b { pending = bit_or b.pending (2 ^ k) }) b same same
  raised_later ActorId.Timer = same
  raised_later (ActorId.Hart k) = same

  done : (actor : ActorId) (it : BoardOp) → IsLater (board_act b actor it).1
  done actor act.Look = looked (hart_of b actor)
  done actor (act.Putchar byte) =
      either b.off (Reply.Done, b) _ same
      (either (nat_lt (length b.console) ring_size) (Reply.Done, record b { console = b.console ++ byte ∷ [] }) (Reply.Full, b) same same)
  done actor (act.Reset kind reason) =
      either (is_reset_allowed kind reason) (succeeded (record b { off = true })) (refused invalid_parameter b) same same
  done actor act.Time = same
  done actor (act.SoftwarePending clear set) = accessed (hart_of b actor) clear set
  done actor (act.SetTimer deadline) = timed (hart_of b actor) deadline
  done actor (act.SendIpi mask base) =
      either (names_harts_alone mask base (hart_count b)) (succeeded (record b { software = sent_from mask base 0 b.software }))
      (refused invalid_parameter b) same same
  done actor (act.StartHart hart pc word) =
      either (nat_lt hart (hart_count b)) (start_as (state_of b hart) b hart pc word) (refused invalid_parameter b)
      (started_as (state_of b hart) hart pc word) same
  done actor act.StopHart = stopped (hart_of b actor)
  done actor (act.HartStatus hart) =
      either (nat_lt hart (hart_count b)) (Reply.Returned 0 (status_number (state_of b hart)), b) (refused invalid_parameter b) same same
  done actor act.RaiseLine = raised_later actor
  done actor (act.Advance nanoseconds) = omega arith

  register : (offset value : ℕ) → IsLater (register_after b offset value)
  register offset value =
      board_by (offset == 0) (record b { pending = bit_and b.pending (bit_not w16 (value % 2 ^ 16)) }) _ same
      (board_by (nat_le enables_start offset) (record b { enables = slice_set b.enables (hart_at offset) (value % 2 ^ 16) }) b same same)

  window : (at : ℕ) (piece : List ℕ) → IsLater (window_after b at piece)
  window at piece =
      board_by (is_register at (length piece)) (register_after b (at - window_start) (little_endian piece)) b
      (register (at - window_start) (little_endian piece)) same

  pub board_later : (actor : ActorId) (op : Op) → IsLater (touch b actor op).1
  board_later actor (Op.Board it) = done actor it
  board_later actor (Op.Read at len) =
      either (nat_le len 64 && is_window at len) (Reply.Bytes (window_bytes b at len), b) (Reply.AccessFault, b) same same
  board_later actor (Op.Write at piece) =
      either (is_window at (length piece)) (Reply.Done, window_after b at piece) (Reply.AccessFault, b) (window at piece) same
  board_later actor (Op.Amo at value kind wide) = same
  board_later actor (Op.Lr at wide) = same
  board_later actor (Op.Sc at value wide) = same
  board_later actor (Op.Port port it) = same
  board_later actor (Op.Out it) = same
  board_later actor Op.Idle = same
