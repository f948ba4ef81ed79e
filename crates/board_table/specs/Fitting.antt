-- What the board replies fits the act.
use Rattle.std.proofs.Common.{◌≡◌, ℕ, ◌-◌, ◌%◌, ◌==◌, Bool, true, false, cond, nat_lt, nat_le, ◌&&◌, length, refl, sym, [], ◌∷◌, ◌++◌, Option, Some, None, replicate}
use Rattle.std.proofs.lemmas.Bool.{eq-eqb, eqb-true}
use Rattle.std.proofs.lemmas.List.{length-replicate}
use Rattle.vm_types.specs.declared.ids.ActorId.{ActorId}
use Rattle.vm_types.specs.declared.op.Op.{Op}
use Rattle.vm_types.specs.declared.op.BoardOp.{BoardOp}
use Rattle.vm_types.specs.declared.op.BoardOp.TheVariants as act
use Rattle.vm_types.specs.declared.reply.Reply.{Reply}
use Rattle.vm_types.specs.Fits.{fits}
use Rattle.board_table.specs.declared.hart_state.HartState.{HartState}
use Rattle.board_table.specs.declared.hart_state.HartState.TheVariants.{Started, Stopped, StartPending}
use Rattle.le_fields.specs.Fields.{bytes_of}
use Rattle.board_table.specs.Board.{Board, hart_of, hart_count, state_of, ring_size}
use Rattle.board_table.specs.Calls.{is_reset_allowed, refused, succeeded, invalid_parameter, names_harts_alone, sent_from, start_as, set_timer, status_number, stop_hart}
use Rattle.board_table.specs.Pending.{look, look_as, access_sip}
use Rattle.board_table.specs.Window.{is_window, is_register, register_value, window_bytes, window_after, window_start}
use Rattle.board_table.specs.Acts.{board_act, touch, is_board_op}

-- of two answers the one that a test picks fits, where both do
either_fits : (op : Op) (b : Bool) (x y : Reply × Board) → fits op x.0 ≡ true → fits op y.0 ≡ true
    → fits op (cond b x y).0 ≡ true
either_fits op true x y first second = first
either_fits op false x y first second = second

first_holds : (a b : Bool) → (a && b) ≡ true → a ≡ true
first_holds true b both = refl
first_holds false b both = cc

look_as_fits : (state : HartState) (b : Board) (k : ℕ) → fits (Op.Board act.Look) (look_as state b k).0 ≡ true
look_as_fits Started b k = refl
look_as_fits Stopped b k = refl
look_as_fits (StartPending pc word) b k = refl

look_fits : (b : Board) (hart : Option ℕ) → fits (Op.Board act.Look) (look b hart).0 ≡ true
look_fits b None = refl
look_fits b (Some k) = look_as_fits (state_of b k) b k

sip_fits : (b : Board) (hart : Option ℕ) (clear set : ℕ)
    → fits (Op.Board (act.SoftwarePending clear set)) (access_sip b hart clear set).0 ≡ true
sip_fits b None clear set = refl
sip_fits b (Some k) clear set = refl

start_as_fits : (state : HartState) (b : Board) (k pc word : ℕ)
    → fits (Op.Board (act.StartHart k pc word)) (start_as state b k pc word).0 ≡ true
start_as_fits Started b k pc word = refl
start_as_fits Stopped b k pc word = refl
start_as_fits (StartPending from with) b k pc word = refl

set_timer_fits : (b : Board) (hart : Option ℕ) (deadline : ℕ)
    → fits (Op.Board (act.SetTimer deadline)) (set_timer b hart deadline).0 ≡ true
set_timer_fits b None deadline = refl
set_timer_fits b (Some k) deadline = refl

stop_fits : (b : Board) (hart : Option ℕ) → fits (Op.Board act.StopHart) (stop_hart b hart).0 ≡ true
stop_fits b None = refl
stop_fits b (Some k) = refl

act_fits : (b : Board) (actor : ActorId) (act : BoardOp) → fits (Op.Board act) (board_act b actor act).0 ≡ true
act_fits b actor act.Look = look_fits b (hart_of b actor)
act_fits b actor (act.Putchar byte) =
    let room : Reply × Board = (Reply.Done, record b { console = b.console ++ byte ∷ [] }) in
    let full : Reply × Board = (Reply.Full, b) in
    either_fits (Op.Board (act.Putchar byte)) b.off (Reply.Done, b)
    (cond (nat_lt (length b.console) ring_size) room full) refl
    (either_fits (Op.Board (act.Putchar byte)) (nat_lt (length b.console) ring_size) room full refl refl)
act_fits b actor (act.Reset kind reason) =
    either_fits (Op.Board (act.Reset kind reason)) (is_reset_allowed kind reason)
    (succeeded (record b { off = true })) (refused invalid_parameter b) refl refl
act_fits b actor act.Time = refl
act_fits b actor (act.SoftwarePending clear set) = sip_fits b (hart_of b actor) clear set
act_fits b actor (act.SetTimer deadline) = set_timer_fits b (hart_of b actor) deadline
act_fits b actor (act.SendIpi mask base) =
    either_fits (Op.Board (act.SendIpi mask base)) (names_harts_alone mask base (hart_count b))
    (succeeded (record b { software = sent_from mask base 0 b.software })) (refused invalid_parameter b) refl refl
act_fits b actor (act.StartHart hart pc word) =
    either_fits (Op.Board (act.StartHart hart pc word)) (nat_lt hart (hart_count b))
    (start_as (state_of b hart) b hart pc word) (refused invalid_parameter b)
    (start_as_fits (state_of b hart) b hart pc word) refl
act_fits b actor act.StopHart = stop_fits b (hart_of b actor)
act_fits b actor (act.HartStatus hart) =
    either_fits (Op.Board (act.HartStatus hart)) (nat_lt hart (hart_count b))
    (Reply.Returned 0 (status_number (state_of b hart)), b) (refused invalid_parameter b) refl refl
act_fits b actor act.RaiseLine = refl
act_fits b actor (act.Advance nanoseconds) = refl

-- as many bytes are read as were asked for
bytes_fit : (b : Board) (at len : ℕ) (is : Bool) → is_register at len ≡ is
    → length (cond is (bytes_of 4 (register_value b (at - window_start))) (replicate len 0)) ≡ len
bytes_fit b at len true is = sym (eqb-true len 4 (first_holds (len == 4) (at % 4 == 0) is))
bytes_fit b at len false is = length-replicate len 0

read_fits : (b : Board) (at len : ℕ) → fits (Op.Read at len) (Reply.Bytes (window_bytes b at len)) ≡ true
read_fits b at len = eq-eqb (length (window_bytes b at len)) len (bytes_fit b at len (is_register at len) refl)

pub board_reply_fits : (b : Board) (actor : ActorId) (op : Op) → is_board_op op ≡ true
    → fits op (touch b actor op).0 ≡ true
board_reply_fits b actor (Op.Board act) is = act_fits b actor act
board_reply_fits b actor (Op.Read at len) is =
    either_fits (Op.Read at len) (nat_le len 64 && is_window at len) (Reply.Bytes (window_bytes b at len), b)
    (Reply.AccessFault, b) (read_fits b at len) refl
board_reply_fits b actor (Op.Write at piece) is =
    either_fits (Op.Write at piece) (is_window at (length piece)) (Reply.Done, window_after b at piece)
    (Reply.AccessFault, b) refl refl
board_reply_fits b actor (Op.Amo at value kind wide) is = refl
board_reply_fits b actor (Op.Lr at wide) is = refl
board_reply_fits b actor (Op.Sc at value wide) is = refl
board_reply_fits b actor op is = cc
