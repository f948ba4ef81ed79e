-- The board of a guest that is off stays off, and its console holds what it held.
use Rattle.std.proofs.Common.{◌≡◌, ℕ, ◌-◌, ◌==◌, Bool, true, false, cond, nat_le, nat_lt, ◌&&◌, List, length, refl, Option, Some, None}
use Rattle.vm_types.specs.declared.ids.ActorId.{ActorId}
use Rattle.vm_types.specs.declared.ids.ActorId.TheVariants.{Timer, Hart, Device}
use Rattle.vm_types.specs.declared.ids.PlaceId.{PlaceId}
use Rattle.vm_types.specs.declared.op.Op.{Op}
use Rattle.vm_types.specs.declared.op.BoardOp.{BoardOp}
use Rattle.vm_types.specs.declared.op.BoardOp.TheVariants as act
use Rattle.vm_types.specs.declared.reply.Reply.{Reply}
use Rattle.board_table.specs.declared.hart_state.HartState.{HartState}
use Rattle.board_table.specs.declared.hart_state.HartState.TheVariants.{Started, Stopped, StartPending}
use Rattle.board_table.specs.Acts.{board_act, line_count, raise_line, touch}
use Rattle.board_table.specs.Board.{Board, hart_count, hart_of, state_of}
use Rattle.board_table.specs.Calls.{invalid_parameter, is_reset_allowed, names_harts_alone, refused, sent_from, set_timer, start_as, status_number, stop_hart, succeeded}
use Rattle.board_table.specs.Pending.{access_sip, look, look_as}
use Rattle.board_table.specs.Window.{enables_start, is_register, is_window, register_after, window_after, window_bytes, window_start}
use Rattle.flat_guest.specs.Steps.{board_after}

pub record Stays (b c : Board) : Type 0 where
  pub off : c.off ≡ true
  pub console : c.console ≡ b.console

module _ (b : Board) (off : b.off ≡ true) where
  same : Stays b b
  same = record { off = off; console = refl }

  -- whichever of two a test picks
  one_stays : (t : Bool) (c d : Board) → Stays b c → Stays b d → Stays b (cond t c d)
  one_stays true c d first second = first
  one_stays false c d first second = second

  either_stays : (t : Bool) (x y : Reply × Board) → Stays b x.1 → Stays b y.1 → Stays b (cond t x y).1
  either_stays true x y first second = first
  either_stays false x y first second = second

  -- where the guest is off the second is never picked
  first_stays : (t : Bool) (x y : Reply × Board) → t ≡ true → Stays b x.1 → Stays b (cond t x y).1
  first_stays true x y is first = first
  first_stays false x y is first = cc

  look_as_stays : (state : HartState) (k : ℕ) → Stays b (look_as state b k).1
  look_as_stays Started k = same
  look_as_stays Stopped k = same
  look_as_stays (StartPending pc word) k = record { off = off; console = refl }

  look_stays : (hart : Option ℕ) → Stays b (look b hart).1
  look_stays None = same
  look_stays (Some k) = look_as_stays (state_of b k) k

  sip_stays : (hart : Option ℕ) (clear set : ℕ) → Stays b (access_sip b hart clear set).1
  sip_stays None clear set = same
  sip_stays (Some k) clear set = record { off = off; console = refl }

  timer_stays : (hart : Option ℕ) (deadline : ℕ) → Stays b (set_timer b hart deadline).1
  timer_stays None deadline = same
  timer_stays (Some k) deadline = record { off = off; console = refl }

  start_as_stays : (state : HartState) (k pc word : ℕ) → Stays b (start_as state b k pc word).1
  start_as_stays Started k pc word = same
  start_as_stays Stopped k pc word = record { off = off; console = refl }
  start_as_stays (StartPending from with) k pc word = same

  stop_stays : (hart : Option ℕ) → Stays b (stop_hart b hart).1
  stop_stays None = same
  stop_stays (Some k) = record { off = off; console = refl }

  line_stays : (actor : ActorId) → Stays b (raise_line b actor)
  line_stays Timer = same
  line_stays (Hart k) = same
  line_stays (Device k) = one_stays (nat_lt k line_count) _ b (record { off = off; console = refl }) same

  act_stays : (actor : ActorId) (act : BoardOp) → Stays b (board_act b actor act).1
  act_stays actor act.Look = look_stays (hart_of b actor)
  act_stays actor (act.Putchar byte) = first_stays b.off (Reply.Done, b) _ off same
  act_stays actor (act.Reset kind reason) =
      either_stays (is_reset_allowed kind reason) (succeeded (record b { off = true })) (refused invalid_parameter b)
      (record { off = refl; console = refl }) same
  act_stays actor act.Time = same
  act_stays actor (act.SoftwarePending clear set) = sip_stays (hart_of b actor) clear set
  act_stays actor (act.SetTimer deadline) = timer_stays (hart_of b actor) deadline
  act_stays actor (act.SendIpi mask base) =
      either_stays (names_harts_alone mask base (hart_count b))
      (succeeded (record b { software = sent_from mask base 0 b.software })) (refused invalid_parameter b)
      (record { off = off; console = refl }) same
  act_stays actor (act.StartHart hart pc word) =
      either_stays (nat_lt hart (hart_count b)) (start_as (state_of b hart) b hart pc word) (refused invalid_parameter b)
      (start_as_stays (state_of b hart) hart pc word) same
  act_stays actor act.StopHart = stop_stays (hart_of b actor)
  act_stays actor (act.HartStatus hart) =
      either_stays (nat_lt hart (hart_count b)) (Reply.Returned 0 (status_number (state_of b hart)), b)
      (refused invalid_parameter b) same same
  act_stays actor act.RaiseLine = line_stays actor
  act_stays actor (act.Advance nanoseconds) = record { off = off; console = refl }

  register_stays : (offset value : ℕ) → Stays b (register_after b offset value)
  register_stays offset value =
      one_stays (offset == 0) _ _ (record { off = off; console = refl })
      (one_stays (nat_le enables_start offset) _ b (record { off = off; console = refl }) same)

  window_stays : (at : ℕ) (piece : List ℕ) → Stays b (window_after b at piece)
  window_stays at piece =
      one_stays (is_register at (length piece)) _ b (register_stays (at - window_start) _) same

  touch_stays : (actor : ActorId) (op : Op) → Stays b (touch b actor op).1
  touch_stays actor (Op.Board act) = act_stays actor act
  touch_stays actor (Op.Read at len) =
      either_stays (nat_le len 64 && is_window at len) (Reply.Bytes (window_bytes b at len), b) (Reply.AccessFault, b)
      same same
  touch_stays actor (Op.Write at piece) =
      either_stays (is_window at (length piece)) (Reply.Done, window_after b at piece) (Reply.AccessFault, b)
      (window_stays at piece) same
  touch_stays actor (Op.Amo at value kind wide) = same
  touch_stays actor (Op.Lr at wide) = same
  touch_stays actor (Op.Sc at value wide) = same
  touch_stays actor (Op.Port port act) = same
  touch_stays actor (Op.Out act) = same
  touch_stays actor Op.Idle = same

  pub board_stays : (place : PlaceId) (actor : ActorId) (op : Op) → Stays b (board_after place b actor op)
  board_stays PlaceId.Board actor op = touch_stays actor op
  board_stays (PlaceId.Page i) actor op = same
  board_stays (PlaceId.Port k) actor op = same
  board_stays PlaceId.Out actor op = same
