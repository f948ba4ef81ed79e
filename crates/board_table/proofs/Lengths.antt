-- A board keeps as many harts, and no more bytes of the console than its ring holds.
use Rattle.std.proofs.Common.{◌≡◌, ◌≤◌, ℕ, suc, ◌-◌, ◌%◌, ◌^◌, ◌==◌, ◌&&◌, refl, ap, ◌∙◌, Bool, true, false, if◌then◌else◌, nat_le, nat_lt, List, [], ◌∷◌, ◌++◌, Option, Some, None, length, replicate, arith, slice_set, bit_and, bit_or, length-append}
use Rattle.std.specs.Int.{bit_not, w16}
use Rattle.std.proofs.lemmas.Bool.{ltb-true}
use Rattle.std.proofs.lemmas.List.{length-replicate, length-set}
use Rattle.vm_types.specs.declared.ids.ActorId.{ActorId}
use Rattle.vm_types.specs.declared.op.Op.{Op}
use Rattle.vm_types.specs.declared.op.BoardOp.{BoardOp}
use Rattle.vm_types.specs.declared.op.BoardOp.TheVariants as act
use Rattle.vm_types.specs.declared.reply.Reply.{Reply}
use Rattle.le_fields.specs.Fields.{little_endian}
use Rattle.board_table.specs.declared.hart_state.HartState.{HartState}
use Rattle.board_table.specs.declared.hart_state.HartState.TheVariants.{Started, Stopped, StartPending}
use Rattle.board_table.specs.Acts.{advance, board_act, line_count, raise_line, touch}
use Rattle.board_table.specs.Board.{Board, hart_count, hart_of, last_moment, new_board, ring_size, state_of, with_state}
use Rattle.board_table.specs.Calls.{invalid_parameter, is_reset_allowed, names_harts_alone, put_byte, refused, sent_from, set_timer, start_as, status_number, stop_hart, succeeded}
use Rattle.board_table.specs.Pending.{access_sip, is_software_pending, look, look_as, software_after}
use Rattle.board_table.specs.Window.{enables_start, hart_at, is_register, is_window, register_after, window_after, window_bytes, window_start}
use Rattle.board_table.specs.Kept.{IsLong}

module _ (harts : ℕ) (b : Board) (is : IsLong harts b) where
  -- lists of another length are none of the board's
  long_as : (c : Board) → length c.console ≤ ring_size → length c.enables ≡ length b.enables
      → length c.software ≡ length b.software → length c.deadlines ≡ length b.deadlines → length c.states ≡ length b.states
      → IsLong harts c
  long_as c console enables software deadlines states = record {
    console = console;
    many_enables = enables ∙ is.many_enables;
    many_software = software ∙ is.many_software;
    many_deadlines = deadlines ∙ is.many_deadlines;
    many_states = states ∙ is.many_states;
  }

  with_state_long : (k : ℕ) (state : HartState) → IsLong harts (with_state b k state)
  with_state_long k state = long_as (with_state b k state) is.console refl refl refl (length-set b.states k state)

  board_by : (t : Bool) (x y : Board) → (t ≡ true → IsLong harts x) → (t ≡ false → IsLong harts y)
      → IsLong harts (if t then x else y)
  board_by true x y first second = first refl
  board_by false x y first second = second refl

  either : (t : Bool) (x y : Reply × Board) → (t ≡ true → IsLong harts x.1) → (t ≡ false → IsLong harts y.1)
      → IsLong harts (if t then x else y).1
  either true x y first second = first refl
  either false x y first second = second refl

  looked_as : (state : HartState) (k : ℕ) → IsLong harts (look_as state b k).1
  looked_as Started k = is
  looked_as Stopped k = is
  looked_as (StartPending pc word) k = with_state_long k Started

  looked : (hart : Option ℕ) → IsLong harts (look b hart).1
  looked None = is
  looked (Some k) = looked_as (state_of b k) k

  put : (byte : ℕ) → IsLong harts (put_byte b byte).1
  put byte =
      either b.off (Reply.Done, b) _ (λ off. is)
      (λ on. either (nat_lt (length b.console) ring_size) (Reply.Done, record b { console = b.console ++ byte ∷ [] }) (Reply.Full, b)
      (λ room. long_as (record b { console = b.console ++ byte ∷ [] })
      (omega (arith, length-append b.console (byte ∷ []), ltb-true (length b.console) ring_size room)) refl refl refl refl) (λ full. is))

  accessed : (hart : Option ℕ) (clear set : ℕ) → IsLong harts (access_sip b hart clear set).1
  accessed None clear set = is
  accessed (Some k) clear set =
      long_as (record b { software = slice_set b.software k (software_after clear set (is_software_pending b k)) }) is.console refl
      (length-set b.software k (software_after clear set (is_software_pending b k))) refl refl

  timed : (hart : Option ℕ) (deadline : ℕ) → IsLong harts (set_timer b hart deadline).1
  timed None deadline = is
  timed (Some k) deadline =
      long_as (record b { deadlines = slice_set b.deadlines k deadline }) is.console refl refl (length-set b.deadlines k deadline) refl

  length-sent : (mask base k : ℕ) (software : List Bool) → length (sent_from mask base k software) ≡ length software
  length-sent mask base k [] = refl
  length-sent mask base k (one ∷ software) = ap suc (length-sent mask base (suc k) software)

  started_as : (state : HartState) (k pc word : ℕ) → IsLong harts (start_as state b k pc word).1
  started_as Started k pc word = is
  started_as Stopped k pc word = with_state_long k (StartPending pc word)
  started_as (StartPending from with) k pc word = is

  stopped : (hart : Option ℕ) → IsLong harts (stop_hart b hart).1
  stopped None = is
  stopped (Some k) = with_state_long k Stopped

  pub raised_long : (actor : ActorId) → IsLong harts (raise_line b actor)
  raised_long (ActorId.Device k) =
      board_by (nat_lt k line_count) (record b { pending = bit_or b.pending (2 ^ k) }) b
      (λ lt. long_as (record b { pending = bit_or b.pending (2 ^ k) }) is.console refl refl refl refl) (λ past. is)
  raised_long ActorId.Timer = is
  raised_long (ActorId.Hart k) = is

  pub drained_long : IsLong harts (record b { console = [] })
  drained_long = long_as (record b { console = [] }) (omega arith) refl refl refl refl

  done : (actor : ActorId) (it : BoardOp) → IsLong harts (board_act b actor it).1
  done actor act.Look = looked (hart_of b actor)
  done actor (act.Putchar byte) = put byte
  done actor (act.Reset kind reason) =
      either (is_reset_allowed kind reason) (succeeded (record b { off = true })) (refused invalid_parameter b)
      (λ yes. long_as (record b { off = true }) is.console refl refl refl refl) (λ no. is)
  done actor act.Time = is
  done actor (act.SoftwarePending clear set) = accessed (hart_of b actor) clear set
  done actor (act.SetTimer deadline) = timed (hart_of b actor) deadline
  done actor (act.SendIpi mask base) =
      either (names_harts_alone mask base (hart_count b)) (succeeded (record b { software = sent_from mask base 0 b.software }))
      (refused invalid_parameter b)
      (λ yes. long_as (record b { software = sent_from mask base 0 b.software }) is.console refl (length-sent mask base 0 b.software) refl refl)
      (λ no. is)
  done actor (act.StartHart hart pc word) =
      either (nat_lt hart (hart_count b)) (start_as (state_of b hart) b hart pc word) (refused invalid_parameter b)
      (λ yes. started_as (state_of b hart) hart pc word) (λ no. is)
  done actor act.StopHart = stopped (hart_of b actor)
  done actor (act.HartStatus hart) =
      either (nat_lt hart (hart_count b)) (Reply.Returned 0 (status_number (state_of b hart)), b) (refused invalid_parameter b) (λ yes. is) (λ no. is)
  done actor act.RaiseLine = raised_long actor
  done actor (act.Advance nanoseconds) = long_as (advance b nanoseconds) is.console refl refl refl refl

  register : (offset value : ℕ) → IsLong harts (register_after b offset value)
  register offset value =
      let cleared : ℕ = bit_and b.pending (bit_not w16 (value % 2 ^ 16)) in
      board_by (offset == 0) (record b { pending = cleared }) _
      (λ first. long_as (record b { pending = cleared }) is.console refl refl refl refl)
      (λ other. board_by (nat_le enables_start offset) (record b { enables = slice_set b.enables (hart_at offset) (value % 2 ^ 16) }) b
      (λ yes. long_as (record b { enables = slice_set b.enables (hart_at offset) (value % 2 ^ 16) }) is.console
      (length-set b.enables (hart_at offset) (value % 2 ^ 16)) refl refl refl) (λ no. is))

  window : (at : ℕ) (piece : List ℕ) → IsLong harts (window_after b at piece)
  window at piece =
      board_by (is_register at (length piece)) (register_after b (at - window_start) (little_endian piece)) b
      (λ yes. register (at - window_start) (little_endian piece)) (λ no. is)

  pub board_long : (actor : ActorId) (op : Op) → IsLong harts (touch b actor op).1
  board_long actor (Op.Board it) = done actor it
  board_long actor (Op.Read at len) =
      either (nat_le len 64 && is_window at len) (Reply.Bytes (window_bytes b at len), b) (Reply.AccessFault, b) (λ yes. is) (λ no. is)
  board_long actor (Op.Write at piece) =
      either (is_window at (length piece)) (Reply.Done, window_after b at piece) (Reply.AccessFault, b) (λ yes. window at piece) (λ no. is)
  board_long actor (Op.Amo at value kind wide) = is
  board_long actor (Op.Lr at wide) = is
  board_long actor (Op.Sc at value wide) = is
  board_long actor (Op.Port port it) = is
  board_long actor (Op.Out it) = is
  board_long actor Op.Idle = is

pub new_long : (harts : ℕ) → IsLong harts (new_board harts)
new_long harts = record {
  console = omega arith;
  many_enables = length-replicate {A = ℕ} harts 0;
  many_software = length-replicate {A = Bool} harts false;
  many_deadlines = length-replicate {A = ℕ} harts last_moment;
  many_states = length-set (replicate harts Stopped) 0 Started ∙ length-replicate {A = HartState} harts Stopped;
}
