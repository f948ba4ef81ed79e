-- The groups of acts of a device with queues: a look, a question, a chain of a queue, guest time, a wait. No line names a
-- kind.
use Rattle.std.specs.Prelude.{ℕ, ◌==◌, Bool, ◌&&◌, ◌||◌, if◌then◌else◌, Option, Some, None, is_some, List}
use Rattle.vm_types.specs.declared.op.Op.{Op}
use Rattle.vm_types.specs.declared.op.Op.TheVariants.{Port, Board}
use Rattle.vm_types.specs.declared.op.PortOp.TheVariants.{Look}
use Rattle.vm_types.specs.declared.op.BoardOp.TheVariants.{Time}
use Rattle.vm_types.specs.declared.reply.Reply.{Reply}
use Rattle.device_trace.specs.Doing.{Doing}
use Rattle.device_trace.specs.Script.{Script, Ends, Asks, perform}
use Rattle.device_trace.specs.Traces.{Changing, Rules}
use Rattle.vq_split.specs.declared.queue.Queue.{Queue}
use Rattle.vq_split.specs.declared.queue.Part.{Part}
use Rattle.vq_split.specs.declared.queue.Why.{Why}
use Rattle.vq_split.specs.declared.walk.Walk.{Walk}
use Rattle.vq_split.specs.declared.walk.Walk.TheVariants as walk
use Rattle.vq_split.specs.Chain.{indexed_by, queue_flaw, queue_look}
use Rattle.dev_core.specs.Returns.{returned, broken}
use Rattle.queue_device.specs.declared.lanes.Due.{Due}
use Rattle.queue_device.specs.declared.lanes.Due.TheVariants as due
use Rattle.queue_device.specs.declared.lanes.Lane.{Lane}
use Rattle.queue_device.specs.declared.lanes.Rounds.{Rounds}
use Rattle.queue_device.specs.declared.lanes.Which.{Which}
use Rattle.queue_device.specs.declared.lanes.Which.TheVariants.{First, Second, Third}
use Rattle.queue_device.specs.Acting.{Acting, Acts, Comes}
use Rattle.queue_device.specs.Chains.{Chain, Taken}
use Rattle.queue_device.specs.Lanes.{busy, in_lane, is_running, lane_counted, lane_emptied, lane_freed, lane_given, lane_of}
use Rattle.queue_device.specs.Lanes.{lane_waiting, next_rounds, round_begun, round_over, with_due}
use Rattle.queue_device.specs.Service.{Queued, Service}

-- the moment that the board tells
abbrev pub time_of : Reply → ℕ
time_of (Reply.Word now) = now
time_of reply = 0

-- what a kind does, and then what its result and the data lead to; it leaves the rounds
abbrev pub during : {E A : Type 0} → Acting E A → Rounds → (Queued E → A → Script (Queued E)) → Script (Queued E)
during (Comes e a) r more = more (record { rounds = r; own = e }) a
during (Acts e op on) r more =
    Asks (record { rounds = r; own = e }) op (λ d reply. during (on d.own reply) d.rounds more)

-- other rounds, and other data of the kind
abbrev pub at_rounds : {E : Type 0} → (Rounds → Rounds) → Queued E → Queued E
at_rounds change d = record { rounds = change d.rounds; own = d.own }

abbrev pub at_own : {E : Type 0} → (E → E) → Queued E → Queued E
at_own change d = record { rounds = d.rounds; own = change d.own }

module _ {E : Type 0} (s : Service E) where
  abbrev pub lane : Which → Queued E → Lane
  lane k d = lane_of k d.rounds

  -- ---- which queue is next

  -- where the round works on a queue, a chain of it waits or one is wanted
  abbrev pub is_due : Which → Queued E → Bool
  is_due k d =
      is_some (lane k d).queue && (is_some (lane k d).waiting || s.wants_chain k (lane k d).is_kicked d.own)

  abbrev pub third_due : Queued E → Option Which
  third_due d = if is_due Third d then Some Third else None

  abbrev pub second_due : Queued E → Option Which
  second_due d = if is_due Second d then Some Second else third_due d

  abbrev pub first_due : Queued E → Option Which
  first_due d = if is_due First d then Some First else second_due d

  -- the first one with something to do, from this one on, and behind it
  abbrev pub due_from : Which → Queued E → Option Which
  due_from First d = first_due d
  due_from Second d = second_due d
  due_from Third d = third_due d

  abbrev pub due_behind : Which → Queued E → Option Which
  due_behind First d = second_due d
  due_behind Second d = third_due d
  due_behind Third d = None

  -- the round goes on from a queue on, or behind it
  abbrev pub on_from : Which → Queued E → Queued E
  on_from k d = at_rounds (next_rounds (due_from k d)) d

  abbrev pub on_behind : Which → Queued E → Queued E
  on_behind k d = at_rounds (next_rounds (due_behind k d)) d

  -- ---- a chain

  -- a queue that is found broken ends the round
  abbrev pub broken_off : Which → Queued E → Queued E
  broken_off k d = at_rounds round_over (at_own (s.over k) d)

  abbrev pub round_broken : Which → Queued E → Script (Queued E)
  round_broken k d = perform (broken d.rounds.port) d (λ e done. Ends (broken_off k e))

  -- the chain is given back, and the queue goes on
  abbrev pub given_back : Which → Queued E → Queued E
  given_back k d = on_from k (at_own (s.over k) (at_rounds busy (at_rounds (in_lane k lane_given) d)))

  abbrev pub served : Which → Queue → ℕ → Queued E → Option ℕ → Script (Queued E)
  served k q head d None = round_broken k d
  served k q head d (Some len) =
      perform (returned d.rounds.port q (lane k d).used head len) d (λ e done. Ends (given_back k e))

  abbrev pub serving : Which → Chain → Queued E → Script (Queued E)
  serving k c d = during (s.serve k c d.own) d.rounds (served k c.queue c.head)

  -- a chain for which guest time is asked waits for it, and so begins a group of its own; any other one is served
  abbrev pub taken : Which → Chain → Queued E → Script (Queued E)
  taken k c d =
      if s.is_timed k c d.own then Ends (at_rounds (with_due (due.Lane k)) (at_rounds (in_lane k (lane_waiting c)) d))
      else serving k c d

  abbrev pub took : Which → Queue → ℕ → Queued E → Option Taken → Script (Queued E)
  took k q head d None = round_broken k d
  took k q head d (Some t) = taken k (record { queue = q; head = head; parts = t.parts; got = t.got }) d

  abbrev pub taking : Which → Queue → ℕ → List Part → Queued E → Script (Queued E)
  taking k q head parts d = during (s.take k parts d.own) d.rounds (took k q head)

  -- what a walk comes to
  abbrev pub walked : Which → Queue → Queued E → Walk → Script (Queued E)
  walked k q d (walk.Chain head parts) = taking k q head parts (at_rounds (in_lane k lane_counted) d)
  walked k q d walk.Empty = Ends (on_behind k (at_rounds (in_lane k lane_emptied) d))
  walked k q d (walk.Broken why) = round_broken k d
  walked k q d walk.More = Ends d

  -- the look that counts shows whether there is a chain, which is so begun
  abbrev pub index_shown : Which → ℕ → ℕ → Queued E → Queued E
  index_shown k next index d = if index == next then d else at_own (s.begun k) d

  abbrev pub index_read : Which → ℕ → Queue → Queued E → ℕ → Script (Queued E)
  index_read k next q d index = perform (indexed_by q next index) (index_shown k next index d) (walked k q)

  abbrev pub walk_from : Which → ℕ → Queue → Doing ℕ → Queued E → Script (Queued E)
  walk_from k next q look d = perform look d (index_read k next q)

  abbrev pub walk_begun : Which → Queue → Option Why → Queued E → Script (Queued E)
  walk_begun k q (Some why) d = round_broken k d
  walk_begun k q None d = walk_from k (lane k d).next q (queue_look q (lane k d).next) d

  -- a chain that waits leaves the round to the queues behind its own, until it passes
  abbrev pub timed : Which → Chain → Queued E → Option E → Script (Queued E)
  timed k c d None = Ends (on_behind k d)
  timed k c d (Some own) = serving k c (record { rounds = in_lane k lane_freed d.rounds; own = own })

  abbrev pub time_asked : Which → Chain → Queued E → Script (Queued E)
  time_asked k c d = Asks d (Board Time) (λ e reply. timed k c e (s.passes k c (time_of reply) e.own))

  -- guest time, where it is asked, and then the service
  abbrev pub goes_on : Which → Chain → Queued E → Script (Queued E)
  goes_on k c d =
      if s.is_timed k c d.own then time_asked k c d else serving k c (at_rounds (in_lane k lane_freed) d)

  -- ---- groups

  -- a chain that waits goes on before another one is begun; a queue that isn't worked on has nothing to do
  abbrev pub lane_begins : Which → Option Queue → Option Chain → Queued E → Script (Queued E)
  lane_begins k None waiting d = Ends d
  lane_begins k (Some q) (Some c) d = goes_on k c d
  lane_begins k (Some q) None d = walk_begun k q (queue_flaw q) d

  -- a look begins a round, under DRIVER_OK with the question
  abbrev pub round_from : Bool → Queued E → Queued E
  round_from is_running d =
      if is_running && s.may_ask && s.asks d.own then at_rounds (with_due due.Question) d else on_from First d

  abbrev pub looked : Reply → Queued E → Queued E
  looked (Reply.Port look) d =
      round_from (is_running look.status)
      (at_rounds (round_begun s.last look) (if look.was_reset then at_own s.reset d else d))
  looked reply d = d

  abbrev pub look_begins : Queued E → Script (Queued E)
  look_begins d = Asks d (Port d.rounds.port Look) (λ e reply. Ends (looked reply e))

  -- the answer to the question
  abbrev pub answered : Queued E → Bool → Script (Queued E)
  answered d received = Ends (on_from First (if received then at_rounds busy d else d))

  abbrev pub question_begins : Queued E → Script (Queued E)
  question_begins d =
      Asks d (s.question d.own) (λ e reply. during (s.answer e.own reply) e.rounds answered)

  abbrev pub wait_begins : Queued E → Script (Queued E)
  wait_begins d = Asks d Op.Idle (λ e reply. Ends (at_rounds (with_due due.Look) e))

  abbrev pub over_begins : Bool → Queued E → Script (Queued E)
  over_begins is_busy d = if is_busy then look_begins d else wait_begins d

  -- What begins a group is judged when it is wanted: a change from outside may leave a queue nothing to do, or a chain no
  -- guest time to ask, and the round then goes on behind it.
  abbrev pub next_begins : Option Which → Queued E → Script (Queued E)
  next_begins (Some k) d = lane_begins k (lane k d).queue (lane k d).waiting d
  next_begins None d = over_begins d.rounds.is_busy (at_rounds round_over d)

  abbrev pub begins_at : Due → Queued E → Script (Queued E)
  begins_at due.Look d = look_begins d
  begins_at due.Question d = question_begins d
  begins_at (due.Lane k) d = next_begins (due_from k d) d
  begins_at due.Wait d = wait_begins d

  abbrev pub begins : Queued E → Script (Queued E)
  begins d = begins_at d.rounds.due d

-- changes of the kind's own data
abbrev pub own_changing : {E C : Type 0} → Changing E C → Changing (Queued E) C
own_changing changing = record {
  between = λ c d. at_own (changing.between c) d;
  inside = λ c d. at_own (changing.inside c) d;
  cut = λ c d op. changing.cut c d.own op;
}

-- the kind, with these changes from outside
abbrev pub queue_rules : {E C : Type 0} → Service E → Changing E C → Rules (Queued E) C
queue_rules s changing = record { begins = begins s; changing = own_changing changing }
