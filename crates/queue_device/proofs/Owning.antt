-- A device's own data change only by what its kind does, by a chain that passes, and by changes from outside: once for all kinds.
use Rattle.std.proofs.Common.{ℕ, ◌==◌, ◌&&◌, Bool, true, false, if◌then◌else◌, Option, Some, None, List}
use Rattle.std.specs.Prelude.{unwrap_or}
use Rattle.vm_types.specs.declared.reply.Reply.{Reply}
use Rattle.vm_types.specs.Fits.{Fits}
use Rattle.device_trace.specs.Doing.{Doing}
use Rattle.device_trace.specs.Keeps.{Moves}
use Rattle.device_trace.specs.Script.{Script, Ends, Asks, data_of, perform}
use Rattle.device_trace.specs.States.{stepped, wants}
use Rattle.device_trace.specs.Traces.{Changing, root_next, root_op}
use Rattle.device_trace.proofs.Moving.{moves_from, moves_on, moves_perform, moves_to}
use Rattle.vq_split.specs.declared.queue.Part.{Part}
use Rattle.vq_split.specs.declared.queue.Queue.{Queue}
use Rattle.vq_split.specs.declared.queue.Why.{Why}
use Rattle.vq_split.specs.declared.walk.Walk.{Walk}
use Rattle.vq_split.specs.declared.walk.Walk.TheVariants as walk
use Rattle.vq_split.specs.Chain.{indexed_by, queue_flaw, queue_look}
use Rattle.vq_split.specs.Walking.{Walking, look_left, walk_left}
use Rattle.dev_core.specs.Returning.{break_left, return_left}
use Rattle.dev_core.specs.Returns.{broken, returned}
use Rattle.queue_device.specs.declared.lanes.Due.{Due}
use Rattle.queue_device.specs.declared.lanes.Due.TheVariants as due
use Rattle.queue_device.specs.declared.lanes.Rounds.{Rounds}
use Rattle.queue_device.specs.declared.lanes.Which.{Which}
use Rattle.queue_device.specs.declared.lanes.Which.TheVariants.{First}
use Rattle.queue_device.specs.declared.phase.Phase.{Phase}
use Rattle.queue_device.specs.declared.phase.Phase.TheVariants as phase
use Rattle.queue_device.specs.Acting.{Acting, Acts, Comes}
use Rattle.queue_device.specs.Chains.{Chain, Taken}
use Rattle.queue_device.specs.Lanes.{busy, in_lane, is_running, lane_counted, lane_freed, lane_waiting, round_begun, round_over, with_due}
use Rattle.queue_device.specs.Left.{Hand, left_at, used_chain, walk_on}
use Rattle.queue_device.specs.Owning.{ActingMoves, HandLeaves, Leaves}
use Rattle.queue_device.specs.Rounds.{answered, at_own, at_rounds, begins, begins_at, broken_off, due_from, during, given_back}
use Rattle.queue_device.specs.Rounds.{index_read, lane, lane_begins, look_begins, looked, next_begins, on_from}
use Rattle.queue_device.specs.Rounds.{over_begins, question_begins, queue_rules, round_broken, served, serving, taking}
use Rattle.queue_device.specs.Rounds.{time_asked, time_of, timed, took, wait_begins, walk_begun, walk_from, walked}
use Rattle.queue_device.specs.Service.{Queued, Service}
use Rattle.queue_device.specs.Timing.{passed_at, passed_by, timed_due, timed_lane, timed_next}

module _ {E : Type 0} (s : Service E) (T : E → E → Type 0) (leaves : Leaves s T) where
  abbrev pub U : Queued E → Queued E → Type 0
  U d e = T d.own e.own

  same : (d : Queued E) → U d d
  same d = leaves.same d.own

  again : (d e f : Queued E) → U d e → U e f → U d f
  again d e f first second = leaves.again d.own e.own f.own first second

  abbrev pub Moved : Queued E → Script (Queued E) → Type 0
  Moved d t = Moves U d t

  from : (c d : Queued E) (t : Script (Queued E)) → U c d → Moved d t → Moved c t
  from c d t first moves = moves_from U same again c d t first moves

  performs : {A : Type 0} (t : Doing A) (d : Queued E) (more : Queued E → A → Script (Queued E))
      → ((e : Queued E) (a : A) → Moved e (more e a)) → Moved d (perform t d more)
  performs t d more on = moves_perform U same again t d more on

  moves_during : {A : Type 0} (t : Acting E A) (d : Queued E) (r : Rounds) (more : Queued E → A → Script (Queued E))
      → ActingMoves T d.own t → ((e : Queued E) (a : A) → Moved e (more e a)) → Moved d (during t r more)
  moves_during (Comes e a) d r more moves on =
      from d (record { rounds = r; own = e }) (more (record { rounds = r; own = e }) a) moves (on (record { rounds = r; own = e }) a)
  moves_during (Acts e op next) d r more moves on =
      (moves.0, λ f reply fit. moves_during (next f.own reply) f f.rounds more (moves.1 f.own reply fit) on)

  -- ---- a chain

  broken_moves : (k : Which) (d : Queued E) → Moved d (round_broken s k d)
  broken_moves k d = performs (broken d.rounds.port) d (λ e done. Ends (broken_off s k e)) (λ e done. leaves.over k e.own)

  served_moves : (k : Which) (q : Queue) (head : ℕ) (d : Queued E) (len : Option ℕ) → Moved d (served s k q head d len)
  served_moves k q head d None = broken_moves k d
  served_moves k q head d (Some len) =
      performs (returned d.rounds.port q (lane s k d).used head len) d (λ e done. Ends (given_back s k e))
      (λ e done. leaves.over k e.own)

  serving_moves : (k : Which) (c : Chain) (d : Queued E) → Moved d (serving s k c d)
  serving_moves k c d =
      moves_during (s.serve k c d.own) d d.rounds (served s k c.queue c.head) (leaves.serve k c d.own)
      (λ e len. served_moves k c.queue c.head e len)

  timed_moves : (k : Which) (c : Chain) (d : Queued E) (o : Option E)
      → Moved (record { rounds = d.rounds; own = unwrap_or o d.own }) (timed s k c d o)
  timed_moves k c d None = leaves.same d.own
  timed_moves k c d (Some own) =
      let now : Queued E = record { rounds = in_lane k lane_freed d.rounds; own = own } in
      from (record { rounds = d.rounds; own = own }) now (serving s k c now) (leaves.same own) (serving_moves k c now)

  taken_by : (timed : Bool) (k : Which) (c : Chain) (d : Queued E)
      → Moved d (if timed then Ends (at_rounds (with_due (due.Lane k)) (at_rounds (in_lane k (lane_waiting c)) d))
      else serving s k c d)
  taken_by true k c d = leaves.same d.own
  taken_by false k c d = serving_moves k c d

  took_moves : (k : Which) (q : Queue) (head : ℕ) (d : Queued E) (o : Option Taken) → Moved d (took s k q head d o)
  took_moves k q head d None = broken_moves k d
  took_moves k q head d (Some t) =
      let c : Chain = record { queue = q; head = head; parts = t.parts; got = t.got } in
      taken_by (s.is_timed k c d.own) k c d

  taking_moves : (k : Which) (q : Queue) (head : ℕ) (parts : List Part) (d : Queued E) → Moved d (taking s k q head parts d)
  taking_moves k q head parts d =
      moves_during (s.take k parts d.own) d d.rounds (took s k q head) (leaves.take k parts d.own)
      (λ e t. took_moves k q head e t)

  walked_moves : (k : Which) (q : Queue) (d : Queued E) (came : Walk) → Moved d (walked s k q d came)
  walked_moves k q d (walk.Chain head parts) =
      from d (at_rounds (in_lane k lane_counted) d) (taking s k q head parts (at_rounds (in_lane k lane_counted) d))
      (leaves.same d.own) (taking_moves k q head parts (at_rounds (in_lane k lane_counted) d))
  walked_moves k q d walk.Empty = leaves.same d.own
  walked_moves k q d (walk.Broken why) = broken_moves k d
  walked_moves k q d walk.More = leaves.same d.own

  shown_moves : (test : Bool) (k : Which) (q : Queue) (t : Doing Walk) (d : Queued E)
      → Moved d (perform t (if test then d else at_own (s.begun k) d) (walked s k q))
  shown_moves true k q t d = performs t d (walked s k q) (λ e came. walked_moves k q e came)
  shown_moves false k q t d =
      from d (at_own (s.begun k) d) (perform t (at_own (s.begun k) d) (walked s k q)) (leaves.begun k d.own)
      (performs t (at_own (s.begun k) d) (walked s k q) (λ e came. walked_moves k q e came))

  walk_moves : (k : Which) (next : ℕ) (q : Queue) (t : Doing ℕ) (d : Queued E) → Moved d (walk_from s k next q t d)
  walk_moves k next q t d =
      performs t d (index_read s k next q) (λ e index. shown_moves (index == next) k q (indexed_by q next index) e)

  begun_moves : (k : Which) (q : Queue) (flaw : Option Why) (d : Queued E) → Moved d (walk_begun s k q flaw d)
  begun_moves k q (Some why) d = broken_moves k d
  begun_moves k q None d = walk_moves k (lane s k d).next q (queue_look q (lane s k d).next) d

  -- ---- groups

  -- where the reply to a group's first act leads, if the chain that is timed passes
  abbrev pub Begun : Option (Which × Chain) → Queued E → Script (Queued E) → Type 0
  Begun o d t =
      (reply : Reply) → Fits (root_op t) reply
      → Moved (record { rounds = d.rounds; own = passed_by s o (time_of reply) d.own }) (root_next t reply)

  rooted : (d : Queued E) (t : Script (Queued E)) → Moved d t → Begun None d t
  rooted d (Ends e) moves = λ reply fit. moves
  rooted d (Asks e op on) moves =
      λ reply fit. from d e (on e reply) moves.0 (moves.1 e reply fit)

  goes_by : (timed : Bool) (k : Which) (c : Chain) (d : Queued E)
      → Begun (if timed then Some (k, c) else None) d
      (if timed then time_asked s k c d else serving s k c (at_rounds (in_lane k lane_freed) d))
  goes_by true k c d = λ reply fit. timed_moves k c d (s.passes k c (time_of reply) d.own)
  goes_by false k c d =
      let now : Queued E = at_rounds (in_lane k lane_freed) d in
      rooted d (serving s k c now) (from d now (serving s k c now) (leaves.same d.own) (serving_moves k c now))

  lane_moves : (k : Which) (o : Option Queue) (w : Option Chain) (d : Queued E)
      → Begun (timed_lane s k o w d.own) d (lane_begins s k o w d)
  lane_moves k None w d = rooted d (Ends d) (same d)
  lane_moves k (Some q) (Some c) d = goes_by (s.is_timed k c d.own) k c d
  lane_moves k (Some q) None d = rooted d (walk_begun s k q (queue_flaw q) d) (begun_moves k q (queue_flaw q) d)

  from_moves : (test : Bool) (d e : Queued E) → U d e
      → U d (if test then at_rounds (with_due due.Question) e else on_from s First e)
  from_moves true d e is = is
  from_moves false d e is = is

  reset_moves : (test : Bool) (d : Queued E) → U d (if test then at_own s.reset d else d)
  reset_moves true d = leaves.reset d.own
  reset_moves false d = same d

  looked_moves : (reply : Reply) (d : Queued E) → U d (looked s reply d)
  looked_moves (Reply.Port look) d =
      let e : Queued E = if look.was_reset then at_own s.reset d else d in
      from_moves (is_running look.status && s.may_ask && s.asks e.own) d (at_rounds (round_begun s.last look) e)
      (reset_moves look.was_reset d)
  looked_moves reply d = same d

  look_moves : (d : Queued E) → Moved d (look_begins s d)
  look_moves d = (same d, λ e reply fit. looked_moves reply e)

  wait_moves : (d : Queued E) → Moved d (wait_begins s d)
  wait_moves d = (same d, λ e reply fit. same e)

  busy_moves : (received : Bool) (d : Queued E) → U d (on_from s First (if received then at_rounds busy d else d))
  busy_moves true d = same d
  busy_moves false d = same d

  question_moves : (d : Queued E) → Moved d (question_begins s d)
  question_moves d = (
    same d,
    λ e reply fit. moves_during (s.answer e.own reply) e e.rounds (answered s) (leaves.answer e.own reply)
        (λ f received. busy_moves received f),
  )

  over_moves : (test : Bool) (d : Queued E) → Moved d (over_begins s test d)
  over_moves true d = look_moves d
  over_moves false d = wait_moves d

  next_moves : (o : Option Which) (d : Queued E) → Begun (timed_next s o d) d (next_begins s o d)
  next_moves (Some k) d = lane_moves k (lane s k d).queue (lane s k d).waiting d
  next_moves None d =
      let now : Queued E = at_rounds round_over d in
      rooted d (over_begins s d.rounds.is_busy now) (from d now (over_begins s d.rounds.is_busy now) (same d) (over_moves d.rounds.is_busy now))

  begins_move : (o : Due) (d : Queued E) → Begun (timed_due s o d) d (begins_at s o d)
  begins_move due.Look d = rooted d (look_begins s d) (look_moves d)
  begins_move due.Question d = rooted d (question_begins s d) (question_moves d)
  begins_move (due.Lane k) d = next_moves (due_from s k d) d
  begins_move due.Wait d = rooted d (wait_begins s d) (wait_moves d)

  -- ---- what is left

  -- each act that is left moves the data so
  abbrev pub Left : Script (Queued E) → Type 0
  Left t = Moved (data_of t) t

  pub ends_left : (d : Queued E) → Left (Ends d)
  ends_left d = same d

  abbrev pub From : E → Script (Queued E) → Type 0
  From e t = T e (data_of t).own × Left t

  from_of : (d : Queued E) (t : Script (Queued E)) → Moved d t → From d.own t
  from_of d t moves = (moves_to U same again d t moves, moves_on U same again d t moves)

  pub step_moves : {C : Type 0} (changing : Changing E C) (t : Script (Queued E)) (reply : Reply) → Left t
      → Fits (wants (queue_rules s changing) t) reply → From (passed_at s t reply) (stepped (queue_rules s changing) t reply)
  step_moves changing (Ends d) reply left fit =
      from_of (record { rounds = d.rounds; own = passed_at s (Ends d) reply }) (root_next (begins s d) reply)
      (begins_move d.rounds.due d reply fit)
  step_moves changing (Asks d op on) reply left fit = from_of d (on d reply) (left.1 d reply fit)

  -- what is left where a device is begins with its data, and moves them so
  walk_on_moves : (k : Which) (w : Walking) (look : Option (Doing ℕ)) (d : Queued E) → Moved d (walk_on s k w look d)
  walk_on_moves k w (Some look) d = walk_moves k w.next w.queue look d
  walk_on_moves k w None d = performs (walk_left w) d (walked s k w.queue) (λ e came. walked_moves k w.queue e came)

  at_moves : (p : Phase) (h : Hand E) (d : Queued E) → HandLeaves T h → Moved d (left_at s p h d)
  at_moves phase.Between h d hand = same d
  at_moves phase.Question h d hand = (
    same d,
    λ e reply fit. moves_during (h.answering e.own reply) e e.rounds (answered s) (hand.answering e.own reply)
        (λ f received. busy_moves received f),
  )
  at_moves (phase.Walk k walk) h d hand = walk_on_moves k walk (look_left walk.stage walk.queue walk.next) d
  at_moves (phase.Take c) h d hand = (
    same d,
    λ e reply fit. moves_during (h.taking e.own reply) e e.rounds (took s c.which c.queue c.head) (hand.taking e.own reply)
        (λ f t. took_moves c.which c.queue c.head f t),
  )
  at_moves (phase.Serve c) h d hand = (
    same d,
    λ e reply fit. moves_during (h.serving e.own reply) e e.rounds (served s c.which c.queue c.head) (hand.serving e.own reply)
        (λ f len. served_moves c.which c.queue c.head f len),
  )
  at_moves (phase.Return c len stage) h d hand =
      performs (return_left stage (used_chain c len d.rounds)) d (λ e done. Ends (given_back s c.which e))
      (λ e done. leaves.over c.which e.own)
  at_moves (phase.Break k stage) h d hand =
      performs (break_left stage d.rounds.port) d (λ e done. Ends (broken_off s k e)) (λ e done. leaves.over k e.own)

  pub left_moves : (p : Phase) (h : Hand E) (d : Queued E) → HandLeaves T h → From d.own (left_at s p h d)
  left_moves p h d hand = from_of d (left_at s p h d) (at_moves p h d hand)
