-- A board that a state file can have stays one, and what it replies is small.
use Rattle.std.proofs.Common.{◌≡◌, ◌<◌, ◌≤◌, ℕ, suc, ◌+◌, ◌-◌, ◌%◌, ◌^◌, ◌==◌, ◌&&◌, refl, ap, ◌∙◌, Bool, true, false, if◌then◌else◌, max, min, nat_le, nat_lt, List, [], ◌∷◌, ◌++◌, Option, Some, None, length, replicate, arith, slice_set, bit_and, bit_or, length-append}
use Rattle.std.specs.List.{All}
use Rattle.std.specs.Int.{bit_not, w16}
use Rattle.std.proofs.Math.Pow.{pow-lt}
use Rattle.std.proofs.lemmas.Bool.{ltb-true, ltb-false}
use Rattle.std.proofs.lemmas.Nat.{and_le_l, or_lt}
use Rattle.std.proofs.lemmas.List.{get_or_past, length-replicate, length-set}
use Rattle.std.proofs.lemmas.List.Elements.{All-get_or, All-replicate, All-set}
use Rattle.vm_types.specs.declared.ids.ActorId.{ActorId}
use Rattle.vm_types.specs.declared.op.Op.{Op}
use Rattle.vm_types.specs.declared.op.BoardOp.{BoardOp}
use Rattle.vm_types.specs.declared.op.BoardOp.TheVariants as act
use Rattle.vm_types.specs.declared.reply.Reply.{Reply}
use Rattle.le_fields.specs.Fields.{IsByte, bytes_of, little_endian}
use Rattle.le_fields.proofs.Values.{all_bytes}
use Rattle.board_table.specs.declared.hart_state.HartState.{HartState}
use Rattle.board_table.specs.declared.hart_state.HartState.TheVariants.{Started, Stopped, StartPending}
use Rattle.board_table.specs.Acts.{advance, board_act, line_count, raise_line, touch}
use Rattle.board_table.specs.Board.{Board, hart_count, hart_of, last_moment, new_board, ring_size, state_of, with_state}
use Rattle.board_table.specs.Calls.{invalid_parameter, is_reset_allowed, names_harts_alone, put_byte, refused, sent_from, set_timer, start_as, status_number, stop_hart, succeeded}
use Rattle.board_table.specs.Kept.{AreLines, IsKept, IsSmallAct, IsSmallOp, IsSmallReply, IsSmallState, IsWord}
use Rattle.board_table.specs.Pending.{access_sip, is_external_pending, is_software_pending, is_timer_pending, look, look_as, pending_bit, pending_bits, software_after}
use Rattle.board_table.specs.Window.{enables_start, hart_at, is_register, is_window, register_after, register_value, window_after, window_bytes, window_start}

-- ---- what changes of a board

module _ (harts : ℕ) (b : Board) (is : IsKept harts b) where
  with_console : (console : List ℕ) → length console ≤ ring_size → IsKept harts (record b { console = console })
  with_console console few = record {
    console = few;
    now = is.now;
    pending = is.pending;
    many_enables = is.many_enables;
    enables = is.enables;
    many_software = is.many_software;
    many_deadlines = is.many_deadlines;
    deadlines = is.deadlines;
    many_states = is.many_states;
    states = is.states;
  }

  pub drained : IsKept harts (record b { console = [] })
  drained = with_console [] (omega arith)

  turned_off : IsKept harts (record b { off = true })
  turned_off = record {
    console = is.console;
    now = is.now;
    pending = is.pending;
    many_enables = is.many_enables;
    enables = is.enables;
    many_software = is.many_software;
    many_deadlines = is.many_deadlines;
    deadlines = is.deadlines;
    many_states = is.many_states;
    states = is.states;
  }

  at_moment : (now : ℕ) → IsWord now → IsKept harts (record b { now = now })
  at_moment now small = record {
    console = is.console;
    now = small;
    pending = is.pending;
    many_enables = is.many_enables;
    enables = is.enables;
    many_software = is.many_software;
    many_deadlines = is.many_deadlines;
    deadlines = is.deadlines;
    many_states = is.many_states;
    states = is.states;
  }

  with_pending : (pending : ℕ) → AreLines pending → IsKept harts (record b { pending = pending })
  with_pending pending small = record {
    console = is.console;
    now = is.now;
    pending = small;
    many_enables = is.many_enables;
    enables = is.enables;
    many_software = is.many_software;
    many_deadlines = is.many_deadlines;
    deadlines = is.deadlines;
    many_states = is.many_states;
    states = is.states;
  }

  with_enables : (k lines : ℕ) → AreLines lines → IsKept harts (record b { enables = slice_set b.enables k lines })
  with_enables k lines small = record {
    console = is.console;
    now = is.now;
    pending = is.pending;
    many_enables = length-set b.enables k lines ∙ is.many_enables;
    enables = All-set AreLines b.enables k lines small is.enables;
    many_software = is.many_software;
    many_deadlines = is.many_deadlines;
    deadlines = is.deadlines;
    many_states = is.many_states;
    states = is.states;
  }

  with_software : (software : List Bool) → length software ≡ length b.software → IsKept harts (record b { software = software })
  with_software software many = record {
    console = is.console;
    now = is.now;
    pending = is.pending;
    many_enables = is.many_enables;
    enables = is.enables;
    many_software = many ∙ is.many_software;
    many_deadlines = is.many_deadlines;
    deadlines = is.deadlines;
    many_states = is.many_states;
    states = is.states;
  }

  with_deadline : (k deadline : ℕ) → IsWord deadline → IsKept harts (record b { deadlines = slice_set b.deadlines k deadline })
  with_deadline k deadline small = record {
    console = is.console;
    now = is.now;
    pending = is.pending;
    many_enables = is.many_enables;
    enables = is.enables;
    many_software = is.many_software;
    many_deadlines = length-set b.deadlines k deadline ∙ is.many_deadlines;
    deadlines = All-set IsWord b.deadlines k deadline small is.deadlines;
    many_states = is.many_states;
    states = is.states;
  }

  with_small_state : (k : ℕ) (state : HartState) → IsSmallState state → IsKept harts (with_state b k state)
  with_small_state k state small = record {
    console = is.console;
    now = is.now;
    pending = is.pending;
    many_enables = is.many_enables;
    enables = is.enables;
    many_software = is.many_software;
    many_deadlines = is.many_deadlines;
    deadlines = is.deadlines;
    many_states = length-set b.states k state ∙ is.many_states;
    states = All-set IsSmallState b.states k state small is.states;
  }

  -- ---- acts

  board_by : (t : Bool) (x y : Board) → (t ≡ true → IsKept harts x) → (t ≡ false → IsKept harts y)
      → IsKept harts (if t then x else y)
  board_by true x y first second = first refl
  board_by false x y first second = second refl

  either : (t : Bool) (x y : Reply × Board) → (t ≡ true → IsKept harts x.1) → (t ≡ false → IsKept harts y.1)
      → IsKept harts (if t then x else y).1
  either true x y first second = first refl
  either false x y first second = second refl

  looked_as : (state : HartState) (k : ℕ) → IsKept harts (look_as state b k).1
  looked_as Started k = is
  looked_as Stopped k = is
  looked_as (StartPending pc word) k = with_small_state k Started tt

  looked : (hart : Option ℕ) → IsKept harts (look b hart).1
  looked None = is
  looked (Some k) = looked_as (state_of b k) k

  put : (byte : ℕ) → IsKept harts (put_byte b byte).1
  put byte =
      either b.off (Reply.Done, b) _ (λ off. is)
      (λ on. either (nat_lt (length b.console) ring_size) (Reply.Done, record b { console = b.console ++ byte ∷ [] }) (Reply.Full, b)
      (λ room. with_console (b.console ++ byte ∷ [])
      (omega (arith, length-append b.console (byte ∷ []), ltb-true (length b.console) ring_size room))) (λ full. is))

  accessed : (hart : Option ℕ) (clear set : ℕ) → IsKept harts (access_sip b hart clear set).1
  accessed None clear set = is
  accessed (Some k) clear set =
      with_software (slice_set b.software k (software_after clear set (is_software_pending b k)))
      (length-set b.software k (software_after clear set (is_software_pending b k)))

  timed : (hart : Option ℕ) (deadline : ℕ) → IsWord deadline → IsKept harts (set_timer b hart deadline).1
  timed None deadline small = is
  timed (Some k) deadline small = with_deadline k deadline small

  length-sent : (mask base k : ℕ) (software : List Bool) → length (sent_from mask base k software) ≡ length software
  length-sent mask base k [] = refl
  length-sent mask base k (one ∷ software) = ap suc (length-sent mask base (suc k) software)

  started_as : (state : HartState) (k pc word : ℕ) → IsWord pc × IsWord word → IsKept harts (start_as state b k pc word).1
  started_as Started k pc word small = is
  started_as Stopped k pc word small = with_small_state k (StartPending pc word) small
  started_as (StartPending from with) k pc word small = is

  stopped : (hart : Option ℕ) → IsKept harts (stop_hart b hart).1
  stopped None = is
  stopped (Some k) = with_small_state k Stopped tt

  line_small : (k : ℕ) → nat_lt k line_count ≡ true → AreLines (bit_or b.pending (2 ^ k))
  line_small k lt =
      let few : k < 16 = ltb-true k line_count lt in
      or_lt 16 b.pending (2 ^ k) is.pending (pow-lt few)

  pub raised : (actor : ActorId) → IsKept harts (raise_line b actor)
  raised (ActorId.Device k) =
      board_by (nat_lt k line_count) (record b { pending = bit_or b.pending (2 ^ k) }) b
      (λ lt. with_pending (bit_or b.pending (2 ^ k)) (line_small k lt)) (λ past. is)
  raised ActorId.Timer = is
  raised (ActorId.Hart k) = is

  advanced : (nanoseconds : ℕ) → IsKept harts (advance b nanoseconds)
  advanced nanoseconds = at_moment (max b.now (min (b.now + nanoseconds) last_moment)) (omega (arith, is.now))

  done : (actor : ActorId) (it : BoardOp) → IsSmallAct it → IsKept harts (board_act b actor it).1
  done actor act.Look small = looked (hart_of b actor)
  done actor (act.Putchar byte) small = put byte
  done actor (act.Reset kind reason) small =
      either (is_reset_allowed kind reason) (succeeded (record b { off = true })) (refused invalid_parameter b) (λ yes. turned_off) (λ no. is)
  done actor act.Time small = is
  done actor (act.SoftwarePending clear set) small = accessed (hart_of b actor) clear set
  done actor (act.SetTimer deadline) small = timed (hart_of b actor) deadline small
  done actor (act.SendIpi mask base) small =
      either (names_harts_alone mask base (hart_count b)) (succeeded (record b { software = sent_from mask base 0 b.software }))
      (refused invalid_parameter b) (λ yes. with_software (sent_from mask base 0 b.software) (length-sent mask base 0 b.software)) (λ no. is)
  done actor (act.StartHart hart pc word) small =
      either (nat_lt hart (hart_count b)) (start_as (state_of b hart) b hart pc word) (refused invalid_parameter b)
      (λ yes. started_as (state_of b hart) hart pc word small) (λ no. is)
  done actor act.StopHart small = stopped (hart_of b actor)
  done actor (act.HartStatus hart) small =
      either (nat_lt hart (hart_count b)) (Reply.Returned 0 (status_number (state_of b hart)), b) (refused invalid_parameter b) (λ yes. is) (λ no. is)
  done actor act.RaiseLine small = raised actor
  done actor (act.Advance nanoseconds) small = advanced nanoseconds

  register : (offset value : ℕ) → IsKept harts (register_after b offset value)
  register offset value =
      let cleared : ℕ = bit_and b.pending (bit_not w16 (value % 2 ^ 16)) in
      let pending = is.pending in
      board_by (offset == 0) (record b { pending = cleared }) _
      (λ first. with_pending cleared (omega (arith, and_le_l b.pending (bit_not w16 (value % 2 ^ 16)), pending)))
      (λ other. board_by (nat_le enables_start offset) (record b { enables = slice_set b.enables (hart_at offset) (value % 2 ^ 16) }) b
      (λ yes. with_enables (hart_at offset) (value % 2 ^ 16) (omega arith)) (λ no. is))

  window : (at : ℕ) (piece : List ℕ) → IsKept harts (window_after b at piece)
  window at piece =
      board_by (is_register at (length piece)) (register_after b (at - window_start) (little_endian piece)) b
      (λ yes. register (at - window_start) (little_endian piece)) (λ no. is)

  pub board_kept : (actor : ActorId) (op : Op) → IsSmallOp op → IsKept harts (touch b actor op).1
  board_kept actor (Op.Board it) small = done actor it small
  board_kept actor (Op.Read at len) small =
      either (nat_le len 64 && is_window at len) (Reply.Bytes (window_bytes b at len), b) (Reply.AccessFault, b) (λ yes. is) (λ no. is)
  board_kept actor (Op.Write at piece) small =
      either (is_window at (length piece)) (Reply.Done, window_after b at piece) (Reply.AccessFault, b) (λ yes. window at piece) (λ no. is)
  board_kept actor (Op.Amo at value kind wide) small = is
  board_kept actor (Op.Lr at wide) small = is
  board_kept actor (Op.Sc at value wide) small = is
  board_kept actor (Op.Port port it) small = is
  board_kept actor (Op.Out it) small = is
  board_kept actor Op.Idle small = is

  -- ---- replies

  replied : (t : Bool) (x y : Reply × Board) → (t ≡ true → IsSmallReply x.0) → (t ≡ false → IsSmallReply y.0)
      → IsSmallReply (if t then x else y).0
  replied true x y first second = first refl
  replied false x y first second = second refl

  bit_few : (number : ℕ) (pending : Bool) → 2 ^ number ≤ 2 ^ 9 → pending_bit number pending ≤ 2 ^ 9
  bit_few number true few = few
  bit_few number false few = omega arith

  pending_small : (k : ℕ) → IsWord (pending_bits b k)
  pending_small k =
      let first = bit_few 1 (is_software_pending b k) (omega arith) in
      let second = bit_few 5 (is_timer_pending b k) (omega arith) in
      let third = bit_few 9 (is_external_pending b k) (omega arith) in
      omega (arith, first, second, third)

  state_by : (k : ℕ) (t : Bool) → nat_lt k (length b.states) ≡ t → IsSmallState (state_of b k)
  state_by k true lt = All-get_or IsSmallState b.states k Stopped (ltb-true k (length b.states) lt) is.states
  state_by k false lt =
      rw (get_or_past b.states k Stopped (ltb-false k (length b.states) lt)) tt

  look_small : (state : HartState) (k : ℕ) → IsWord k → IsSmallState state → IsSmallReply (look_as state b k).0
  look_small Started k number small = tt
  look_small Stopped k number small = tt
  look_small (StartPending pc word) k number small = (small.0, number, small.1)

  shown_small : (hart : Option ℕ) → ((k : ℕ) → hart ≡ Some k → IsWord k) → IsSmallReply (look b hart).0
  shown_small None few = tt
  shown_small (Some k) few = look_small (state_of b k) k (few k refl) (state_by k (nat_lt k (length b.states)) refl)

  number_by : (k j : ℕ) (t : Bool) → nat_lt j (hart_count b) ≡ t → (if t then Some j else None) ≡ Some k → k < length b.states
  number_by k j true lt here =
      let same : j ≡ k = cc in
      omega (arith, same, ltb-true j (hart_count b) lt)
  number_by k j false lt here = absurd cc

  hart_small : (actor : ActorId) (k : ℕ) → hart_of b actor ≡ Some k → k < length b.states
  hart_small (ActorId.Hart j) k here = number_by k j (nat_lt j (hart_count b)) refl here
  hart_small ActorId.Timer k here = absurd cc
  hart_small (ActorId.Device j) k here = absurd cc

  sip_small : (hart : Option ℕ) (clear set : ℕ) → IsSmallReply (access_sip b hart clear set).0
  sip_small None clear set = omega arith
  sip_small (Some k) clear set = pending_small k

  timer_small : (hart : Option ℕ) (deadline : ℕ) → IsSmallReply (set_timer b hart deadline).0
  timer_small None deadline = tt
  timer_small (Some k) deadline = tt

  stop_small : (hart : Option ℕ) → IsSmallReply (stop_hart b hart).0
  stop_small None = tt
  stop_small (Some k) = tt

  start_small : (state : HartState) (k pc word : ℕ) → IsSmallReply (start_as state b k pc word).0
  start_small Started k pc word = (omega arith, omega arith)
  start_small Stopped k pc word = (omega arith, omega arith)
  start_small (StartPending from with) k pc word = (omega arith, omega arith)

  status_small : (state : HartState) → IsWord (status_number state)
  status_small Started = omega arith
  status_small Stopped = omega arith
  status_small (StartPending pc word) = omega arith

  act_replies : (actor : ActorId) (it : BoardOp) → harts ≤ 2 ^ 32 → IsSmallReply (board_act b actor it).0
  act_replies actor act.Look few =
      shown_small (hart_of b actor)
      (λ k here. let many = is.many_states in omega (arith, few, many, hart_small actor k here))
  act_replies actor (act.Putchar byte) few =
      replied b.off (Reply.Done, b) _ (λ off. tt)
      (λ on. replied (nat_lt (length b.console) ring_size) (Reply.Done, record b { console = b.console ++ byte ∷ [] }) (Reply.Full, b) (λ room. tt)
      (λ full. tt))
  act_replies actor (act.Reset kind reason) few =
      replied (is_reset_allowed kind reason) (succeeded (record b { off = true })) (refused invalid_parameter b)
      (λ yes. (omega arith, omega arith)) (λ no. (omega arith, omega arith))
  act_replies actor act.Time few = is.now
  act_replies actor (act.SoftwarePending clear set) few = sip_small (hart_of b actor) clear set
  act_replies actor (act.SetTimer deadline) few = timer_small (hart_of b actor) deadline
  act_replies actor (act.SendIpi mask base) few =
      replied (names_harts_alone mask base (hart_count b)) (succeeded (record b { software = sent_from mask base 0 b.software }))
      (refused invalid_parameter b) (λ yes. (omega arith, omega arith)) (λ no. (omega arith, omega arith))
  act_replies actor (act.StartHart hart pc word) few =
      replied (nat_lt hart (hart_count b)) (start_as (state_of b hart) b hart pc word) (refused invalid_parameter b)
      (λ yes. start_small (state_of b hart) hart pc word) (λ no. (omega arith, omega arith))
  act_replies actor act.StopHart few = stop_small (hart_of b actor)
  act_replies actor (act.HartStatus hart) few =
      replied (nat_lt hart (hart_count b)) (Reply.Returned 0 (status_number (state_of b hart)), b) (refused invalid_parameter b)
      (λ yes. (omega arith, status_small (state_of b hart))) (λ no. (omega arith, omega arith))
  act_replies actor act.RaiseLine few = tt
  act_replies actor (act.Advance nanoseconds) few = tt

  bytes_by : (t : Bool) (len value : ℕ) → All IsByte (if t then bytes_of 4 value else replicate len 0)
  bytes_by true len value = all_bytes 4 value
  bytes_by false len value = All-replicate IsByte len 0 (omega arith)

  pub board_replies : (actor : ActorId) (op : Op) → harts ≤ 2 ^ 32 → IsSmallReply (touch b actor op).0
  board_replies actor (Op.Board it) few = act_replies actor it few
  board_replies actor (Op.Read at len) few =
      replied (nat_le len 64 && is_window at len) (Reply.Bytes (window_bytes b at len), b) (Reply.AccessFault, b)
      (λ yes. bytes_by (is_register at len) len (register_value b (at - window_start))) (λ no. tt)
  board_replies actor (Op.Write at piece) few =
      replied (is_window at (length piece)) (Reply.Done, window_after b at piece) (Reply.AccessFault, b) (λ yes. tt) (λ no. tt)
  board_replies actor (Op.Amo at value kind wide) few = tt
  board_replies actor (Op.Lr at wide) few = tt
  board_replies actor (Op.Sc at value wide) few = tt
  board_replies actor (Op.Port port it) few = tt
  board_replies actor (Op.Out it) few = tt
  board_replies actor Op.Idle few = tt

-- ---- and at the start

pub new_kept : (harts : ℕ) → IsKept harts (new_board harts)
new_kept harts = record {
  console = omega arith;
  now = omega arith;
  pending = omega arith;
  many_enables = length-replicate {A = ℕ} harts 0;
  enables = All-replicate AreLines harts 0 (omega arith);
  many_software = length-replicate {A = Bool} harts false;
  many_deadlines = length-replicate {A = ℕ} harts last_moment;
  deadlines = All-replicate IsWord harts last_moment (omega arith);
  many_states = length-set (replicate harts Stopped) 0 Started ∙ length-replicate {A = HartState} harts Stopped;
  states = All-set IsSmallState (replicate harts Stopped) 0 Started tt (All-replicate IsSmallState harts Stopped tt);
}
