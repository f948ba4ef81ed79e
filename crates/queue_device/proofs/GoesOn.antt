-- What is kept of a device leads to what is kept of it: behind each fitting reply, and behind each change.
use Rattle.std.proofs.Common.{◌≡◌, ℕ, ◌%◌, ◌^◌, ◌<◌, ◌≤◌, ◌==◌, ◌&&◌, ◌||◌, not, refl, sym, ap, subst, ◌∙◌, Bool, true, false, if◌then◌else◌, arith, inl, inr, Option, Some, None, is_some}
use Rattle.std.proofs.lemmas.Bool.{and_from, and_parts, eqb-true, or_right}
use Rattle.vm_types.specs.declared.op.Op.{Op}
use Rattle.vm_types.specs.declared.op.OutOp.{OutOp}
use Rattle.vm_types.specs.declared.port_look.PortLook.{PortLook}
use Rattle.vm_types.specs.declared.reply.Reply.{Reply}
use Rattle.vm_types.specs.declared.reply.Reply.TheVariants.{Word}
use Rattle.vm_types.specs.Fits.{Fits}
use Rattle.device_trace.specs.Doing.{Doing, Gives, Wants, asked, led}
use Rattle.device_trace.specs.Script.{Script, Ends, Asks, perform}
use Rattle.device_trace.specs.States.{changed_at, stepped, wants}
use Rattle.device_trace.specs.Traces.{Changing, cut_by, root_next, root_op}
use Rattle.vq_split.specs.declared.queue.Queue.{Queue}
use Rattle.vq_split.specs.declared.queue.Why.{Why}
use Rattle.vq_split.specs.declared.walk.Walk.{Walk}
use Rattle.vq_split.specs.declared.walk.Walk.TheVariants as walk
use Rattle.vq_split.specs.Chain.{index_in, index_seen, indexed_by, queue_flaw}
use Rattle.vq_split.specs.Inside.{AreInside}
use Rattle.vq_split.specs.Kept.{IsWalking, is_walking}
use Rattle.vq_split.specs.Walking.{IsSound, Walking, look_left, walk_left, walk_wants}
use Rattle.vq_split.proofs.Inside.{sound}
use Rattle.vq_split.proofs.Kept.{is_eq, test_of_sound, test_of_walking}
use Rattle.dev_core.specs.declared.breaking.BreakStage.{BreakStage}
use Rattle.dev_core.specs.declared.breaking.BreakStage.TheVariants as breaking
use Rattle.dev_core.specs.declared.returning.ReturnStage.{ReturnStage}
use Rattle.dev_core.specs.declared.returning.ReturnStage.TheVariants as returning
use Rattle.dev_core.specs.declared.returning.UsedChain.{UsedChain}
use Rattle.dev_core.specs.Inside.{Any}
use Rattle.dev_core.specs.Returning.{break_left, may_return, return_left}
use Rattle.dev_core.specs.Returns.{broke, event_read, index_written, interrupted, length_written, line_raised, pair_place}
use Rattle.queue_device.specs.declared.lanes.Due.{Due}
use Rattle.queue_device.specs.declared.lanes.Due.TheVariants as due
use Rattle.queue_device.specs.declared.lanes.Lane.{Lane}
use Rattle.queue_device.specs.declared.lanes.Rounds.{Rounds}
use Rattle.queue_device.specs.declared.lanes.Which.{Which}
use Rattle.queue_device.specs.declared.lanes.Which.TheVariants.{First}
use Rattle.queue_device.specs.declared.phase.InHand.{InHand}
use Rattle.queue_device.specs.declared.phase.Phase.{Phase}
use Rattle.queue_device.specs.declared.phase.Phase.TheVariants as phase
use Rattle.queue_device.specs.declared.phase.Work.{Work}
use Rattle.queue_device.specs.declared.phase.Work.TheVariants as work
use Rattle.queue_device.specs.Acting.{Acting}
use Rattle.queue_device.specs.Chains.{Chain, Taken}
use Rattle.queue_device.specs.Confined.{Confines, IsChain, is_lane, is_queue, is_waiting}
use Rattle.queue_device.specs.Kept.{is_asking, is_at_lane, is_in_hand, is_next, is_of_round, is_over, is_own_lane, is_place, is_state, is_taken_of, is_told, is_walked, work_of}
use Rattle.queue_device.specs.Lanes.{busy, in_lane, is_running, lane_counted, lane_emptied, lane_freed, lane_given, lane_of, lane_waiting, new_rounds, round_begun, round_over, with_due}
use Rattle.queue_device.specs.Left.{Hand, Holds, is_between, left_at, queued, used_chain, walk_on}
use Rattle.queue_device.specs.Resuming.{AreShort, Goes, HasKept, IsShortChain, IsShortLane, IsShortTaken, Resumes, answering_of, serving_of, taking_of}
use Rattle.queue_device.specs.Rounds.{answered, at_own, at_rounds, begins_at, broken_off, due_behind, due_from, during, given_back}
use Rattle.queue_device.specs.Rounds.{lane_begins, looked, next_begins, on_behind, on_from, over_begins, queue_rules}
use Rattle.queue_device.specs.Rounds.{round_broken, round_from, served, serving, time_of, timed, time_asked, took, walk_begun, walk_from, walked}
use Rattle.queue_device.specs.Service.{Queued, Service}
use Rattle.queue_device.specs.Sizes.{IsHead, IsLength, IsNarrowLane, IsNarrowPhase, IsNarrowStage, IsReplyTo, IsSmallReply}
use Rattle.queue_device.proofs.Keeping.{chain_of, lane_held, lane_is, new_are, rounds_of, test_of_chain}
use Rattle.queue_device.proofs.KeptRounds.{IsNext, IsRound, at_in, behind_worked, from_worked, lane_due, new_own, next_in, next_is, over_next, own_lane, queue_in, round_begun_is, round_in, round_of, round_over_is, short_new, short_of, test_of_kept}
use Rattle.queue_device.proofs.Places.{Held, held_of, held_round, held_some, lane_queue, of_shown, walking_is}
use Rattle.queue_device.proofs.Steps.{holds_break, holds_question, holds_return, holds_serve, holds_take, holds_walk, on_next, on_op}
use Rattle.queue_device.proofs.Steps.{FirstAsks, perform_next, walk_first}
use Rattle.queue_device.proofs.Walks.{IsCome, LookGoes, WalkGoes, indexed, look_goes, seen_goes, walk_asks, walk_goes}

-- ---- what is wanted while a chain is given back, or a broken queue is told

pub break_asks : (stage : BreakStage) (port : ℕ) → (op : Op) × (asked (break_left stage port) ≡ Some op)
break_asks breaking.Port port = (_, refl)
break_asks breaking.Line port = (_, refl)

either_asks : {A : Type 0} (test : Bool) (a b : Op) (x y : Reply → Doing A)
    → (op : Op) × (asked (if test then Wants a x else Wants b y) ≡ Some op)
either_asks true a b x y = (a, refl)
either_asks false a b x y = (b, refl)

pub return_asks : (stage : ReturnStage) (c : UsedChain) → (op : Op) × (asked (return_left stage c) ≡ Some op)
return_asks returning.Pair c = either_asks (pair_place c.queue c.used % 4096 == 4092) _ _ _ _
return_asks returning.Half c = (_, refl)
return_asks returning.Index c = (_, refl)
return_asks returning.Event c = (_, refl)
return_asks returning.Interrupt c = (_, refl)
return_asks returning.Line c = (_, refl)

abbrev hold : Which → Queue → ℕ → InHand
hold k q head = record { which = k; queue = q; head = head }

module _ {E G C : Type 0} (s : Service E) (changing : Changing E C) (hand : G → Hand E) (is_work : Work → ℕ → G → Bool)
    (IsFine : E → Type 0) (sized times : Bool) (calls : OutOp → Bool) (port pages : ℕ) (small : pages ≤ 2 ^ 20)
    (kind : Confines s changing times calls) (owes : Resumes s hand is_work IsFine sized changing times calls) where
  abbrev pub Kept : Script (Queued E) → Type 0
  Kept t = HasKept s hand is_work IsFine sized times port pages t

  -- what comes where each reply is small
  abbrev pub Where : Type 0 → Type 0
  Where P = sized ≡ true → P

  abbrev pub Round : Rounds → Type 0
  Round r = IsRound s times sized port pages r

  abbrev pub Next : Rounds → Type 0
  Next r = IsNext s times sized port pages r

  -- rounds in which a group works on a queue
  abbrev pub Working : Rounds → Type 0
  Working r = Round r × Next r × (is_at_lane r.due ≡ true)

  few : pages < 2 ^ 32
  few = omega (arith, small)

  -- a chain of this queue may be in hand
  abbrev Hand_of : Which → Queue → Rounds → Type 0
  Hand_of k q r = Held s times port pages few k q r

  -- ---- what is kept, by what the device is at

  kept_at : (p : Phase) (r : Rounds) (e : E) (g : G) (t : Script (Queued E)) → Where (IsNarrowPhase p) → Round r → Next r
      → is_place times p r ≡ true → is_work (work_of p) pages g ≡ true → IsFine e
      → left_at s p (hand g) (queued r e) ≡ t → Kept t
  kept_at p r e g t narrow it next place works fine left =
      let facts = rounds_of s port pages r it.0 in
      record {
        phase = p;
        rounds = r;
        own = e;
        stage = g;
        is =
            and_from _ _ (and_from _ _ (test_of_kept s times sized port pages r it next) place)
            (subst (λ (n : ℕ). is_work (work_of p) n g ≡ true) (sym facts.pages_are) works);
        fine = fine;
        short = it.2;
        narrow = narrow;
        at_port = facts.port_is;
        of_pages = facts.pages_are;
        left = left;
      }

  ended : (r : Rounds) (e : E) → Round r → Next r → IsFine e → Kept (Ends (queued r e))
  ended r e it next fine =
      kept_at phase.Between r e owes.rest (Ends (queued r e)) (λ is. tt) it next refl (owes.rests pages) fine refl

  on : (k : Which) (d : Queued E) → Round d.rounds → IsFine d.own → Kept (Ends (on_from s k d))
  on k d it fine =
      let n = next_is s times sized port pages (due_from s k d) d.rounds it (from_worked s times k d) in
      ended (on_from s k d).rounds d.own n.0 n.1 fine

  behind : (k : Which) (d : Queued E) → Round d.rounds → IsFine d.own → Kept (Ends (on_behind s k d))
  behind k d it fine =
      let n = next_is s times sized port pages (due_behind s k d) d.rounds it (behind_worked s times k d) in
      ended (on_behind s k d).rounds d.own n.0 n.1 fine

  broken_on : (k : Which) (r : Rounds) (e : E) → Working r → is_some (lane_of k r).queue ≡ true → IsFine e
      → Kept (round_broken s k (queued r e))
  broken_on k r e w some fine =
      kept_at (phase.Break k breaking.Port) r e owes.rest (round_broken s k (queued r e)) (λ is. tt) w.0 w.1 (and_from _ _ w.2 some)
      (owes.rests pages) fine refl

  in_hand : (k : Which) (q : Queue) (head : ℕ) (r : Rounds) → Round r → Hand_of k q r
      → is_in_hand times (hold k q head) r ≡ true
  in_hand k q head r it h =
      and_from _ _
      (and_from _ _ (test_of_sound q h.0) (is_eq q.pages r.pages (h.1 ∙ sym (rounds_of s port pages r it.0).pages_are))) h.2

  -- ---- the work of the kind

  module _ {A : Type 0} (lead : Hand E → E → Reply → Acting E A) (at : Work) (Q : A → Type 0) (r : Rounds)
      (more : Queued E → A → Script (Queued E))
      (goes : (e : E) (g : G) → IsFine e → is_work at pages g ≡ true
      → Kept (Asks (queued r e) (hand g).op (λ d reply. during (lead (hand g) d.own reply) d.rounds more)))
      (came : (e : E) (a : A) → IsFine e → Q a → Kept (more (queued r e) a)) where
    led_on : (t : Acting E A) → Goes s hand is_work IsFine sized lead at pages Q t → Kept (during t r more)
    led_on t (inl g) =
        subst (λ (x : Acting E A). Kept (during x r more)) (sym g.left) (goes g.own g.stage g.fine g.is)
    led_on t (inr h) =
        subst (λ (x : Acting E A). Kept (during x r more)) (sym h.left) (came h.own h.result h.fine h.is)

  served_on : (k : Which) (q : Queue) (head : ℕ) (r : Rounds) (e : E) (len : Option ℕ) → Where (IsHead head) → IsLength sized len
      → Working r → Hand_of k q r → IsFine e → Kept (served s k q head (queued r e) len)
  served_on k q head r e None narrow long w h fine = broken_on k r e w (held_some times _ q h.2) fine
  served_on k q head r e (Some len) narrow long w h fine =
      kept_at (phase.Return (hold k q head) len returning.Pair) r e owes.rest _ (λ is. (narrow is, long is)) w.0 w.1
      (and_from _ _ (and_from _ _ (and_from _ _ w.2 (in_hand k q head r w.0 h)) refl) refl) (owes.rests pages) fine refl

  serving_on : (k : Which) (q : Queue) (head : ℕ) (r : Rounds) (t : Acting E (Option ℕ)) → Where (IsHead head) → Working r
      → Hand_of k q r → Goes s hand is_work IsFine sized serving_of (work.Serve k) pages (IsLength sized) t
      → Kept (during t r (served s k q head))
  serving_on k q head r t narrow w h goes =
      led_on serving_of (work.Serve k) (IsLength sized) r (served s k q head)
      (λ e g fine is. kept_at (phase.Serve (hold k q head)) r e g _ narrow w.0 w.1
      (and_from _ _ w.2 (in_hand k q head r w.0 h)) is fine refl)
      (λ e len fine long. served_on k q head r e len narrow long w h fine) t goes

  serves_on : (k : Which) (c : Chain) (r : Rounds) (e : E) → Working r → Hand_of k c.queue r → IsChain s pages k c
      → IsShortChain sized (Some c) → IsFine e → Kept (serving s k c (queued r e))
  serves_on k c r e w h chain short fine =
      serving_on k c.queue c.head r (s.serve k c e) (λ is. (short.3 is).0) w h (owes.serve pages k c e small fine chain short)

  -- ---- a chain is taken

  -- a lane's own numbers stay where a chain waits in it
  waiting_narrow : (c : Chain) (l : Lane) → IsNarrowLane l → IsNarrowLane (lane_waiting c l)
  waiting_narrow c l n = record { queue = n.queue; next = n.next; used = n.used }

  freed_short : (l : Lane) → IsShortLane sized l → IsShortLane sized (lane_freed l)
  freed_short l short = (tt, λ is. let n = short.1 is in record { queue = n.queue; next = n.next; used = n.used })

  emptied_short : (l : Lane) → IsShortLane sized l → IsShortLane sized (lane_emptied l)
  emptied_short l short = (short.0, λ is. let n = short.1 is in record { queue = n.queue; next = n.next; used = n.used })

  counted_short : (l : Lane) → IsShortLane sized l → IsShortLane sized (lane_counted l)
  counted_short l short = (short.0, λ is. let n = short.1 is in record { queue = n.queue; next = omega arith; used = n.used })

  given_short : (l : Lane) → IsShortLane sized l → IsShortLane sized (lane_given l)
  given_short l short = (short.0, λ is. let n = short.1 is in record { queue = n.queue; next = n.next; used = omega arith })

  may_wait : (b : Bool) (k : Which) (c : Chain) (e : E) → times ≡ b → s.is_timed k c e ≡ true → times ≡ true
  may_wait true k c e may is = may
  may_wait false k c e may is =
      let no : true ≡ false = sym is ∙ kind.untimed may k c e in
      absurd (cc)

  waits_on : (k : Which) (c : Chain) (r : Rounds) (e : E) → Working r → is_some (lane_of k r).queue ≡ true
      → times ≡ true → IsChain s pages k c → IsShortChain sized (Some c) → IsFine e
      → Kept (Ends (queued (with_due (due.Lane k) (in_lane k (lane_waiting c) r)) e))
  waits_on k c r e w some may chain short fine =
      let now : Rounds = in_lane k (lane_waiting c) r in
      let it = round_in s times sized port pages k (lane_waiting c) r w.0 some
      (λ is. lane_held s port pages k (Some c) (lane_of k r) (test_of_chain s pages k c chain) is)
      (λ is. subst (λ (b : Bool). b || not (is_some (Some c)) ≡ true) (sym may) refl)
      (λ was. (short, λ is. waiting_narrow c (lane_of k r) (was.1 is))) in
      let works : is_some (lane_of k (with_due (due.Lane k) now)).queue ≡ true =
      subst (λ (l : Lane). is_some l.queue ≡ true) (sym (lane_due k (due.Lane k) now))
      (subst (λ (q : Option Queue). is_some q ≡ true) (sym (queue_in (lane_waiting c) r k k refl)) some) in
      ended (with_due (due.Lane k) now) e it works fine

  taken_by : (test : Bool) (k : Which) (c : Chain) (r : Rounds) (e : E) → s.is_timed k c e ≡ test → Working r
      → Hand_of k c.queue r → IsChain s pages k c → IsShortChain sized (Some c) → IsFine e
      → Kept (if test then Ends (queued (with_due (due.Lane k) (in_lane k (lane_waiting c) r)) e)
      else serving s k c (queued r e))
  taken_by true k c r e is w h chain short fine =
      waits_on k c r e w (held_some times _ c.queue h.2) (may_wait times k c e refl is) chain short fine
  taken_by false k c r e is w h chain short fine = serves_on k c r e w h chain short fine

  took_on : (k : Which) (q : Queue) (head : ℕ) (r : Rounds) (e : E) (t : Option Taken) → Where (IsHead head) → Working r
      → Hand_of k q r → IsFine e → IsShortTaken s sized pages k t → Kept (took s k q head (queued r e) t)
  took_on k q head r e None narrow w h fine is = broken_on k r e w (held_some times _ q h.2) fine
  took_on k q head r e (Some t) narrow w h fine is =
      let c : Chain = record { queue = q; head = head; parts = t.parts; got = t.got } in
      let chain : IsChain s pages k c =
      record { pages_are = h.1; sound = h.0; parts = is.0.0; got = is.0.1; taken = is.0.2 } in
      let short : IsShortChain sized (Some c) = (is.1.0, is.1.1, is.1.2, λ yes. (narrow yes, is.1.3 yes)) in
      taken_by (s.is_timed k c e) k c r e refl w h chain short fine

  taking_on : (k : Which) (q : Queue) (head : ℕ) (r : Rounds) (t : Acting E (Option Taken)) → Where (IsHead head) → Working r
      → Hand_of k q r → Goes s hand is_work IsFine sized taking_of (work.Take k) pages (IsShortTaken s sized pages k) t
      → Kept (during t r (took s k q head))
  taking_on k q head r t narrow w h goes =
      led_on taking_of (work.Take k) (IsShortTaken s sized pages k) r (took s k q head)
      (λ e g fine is. kept_at (phase.Take (hold k q head)) r e g _ narrow w.0 w.1
      (and_from _ _ w.2 (in_hand k q head r w.0 h)) is fine refl)
      (λ e got fine is. took_on k q head r e got narrow w h fine is) t goes

  -- ---- a chain is walked

  change_works : (k : Which) (change : Lane → Lane) (r : Rounds) → Working r → is_some (lane_of k r).queue ≡ true
      → (is_lane s pages k (lane_of k r) ≡ true → is_lane s pages k (change (lane_of k r)) ≡ true)
      → (is_own_lane times true (lane_of k r) ≡ true → is_own_lane times true (change (lane_of k r)) ≡ true)
      → (IsShortLane sized (lane_of k r) → IsShortLane sized (change (lane_of k r)))
      → (change (lane_of k r)).queue ≡ (lane_of k r).queue → Working (in_lane k change r)
  change_works k change r w some lanes own short same = (
    round_in s times sized port pages k change r w.0 some lanes own short,
    next_in s times sized port pages k change r w.2 same w.1,
    at_in s times sized port pages k change r w.2,
  )

  walked_on : (k : Which) (q : Queue) (r : Rounds) (e : E) (came : Walk) → Working r → Hand_of k q r → IsFine e
      → IsCome sized q.pages came → Kept (walked s k q (queued r e) came)
  walked_on k q r e (walk.Chain head parts) w h fine is =
      let some = held_some times (lane_of k r).queue q h.2 in
      let now = change_works k lane_counted r w some (λ x. x) (λ x. x) (counted_short (lane_of k r)) refl in
      let still : Hand_of k q (in_lane k lane_counted r) = (
        h.0,
        h.1,
        subst (λ (o : Option Queue). is_taken_of times o q ≡ true) (sym (queue_in lane_counted r k k refl)) h.2,
      ) in
      taking_on k q head (in_lane k lane_counted r) (s.take k parts e) is.2 now still
      (owes.take pages k parts e small fine (subst (λ (n : ℕ). AreInside n parts) h.1 is.0) is.1)
  walked_on k q r e walk.Empty w h fine is =
      let some = held_some times (lane_of k r).queue q h.2 in
      let now = change_works k lane_emptied r w some (λ x. x) (λ x. x) (emptied_short (lane_of k r)) refl in
      behind k (queued (in_lane k lane_emptied r) e) now.0 fine
  walked_on k q r e (walk.Broken why) w h fine is = broken_on k r e w (held_some times _ q h.2) fine
  walked_on k q r e walk.More w h fine is = ended r e w.0 w.1 fine

  walks_on : (k : Which) (q : Queue) (next : ℕ) (t : Doing Walk) (r : Rounds) (e : E) → Working r
      → is_of_round (lane_of k r).queue q ≡ true → (next == (lane_of k r).next) ≡ true → IsSound q → q.pages ≡ pages
      → IsFine e → WalkGoes sized q next t → Kept (perform t (queued r e) (walked s k q))
  walks_on k q next t r e w of number fine_queue of_pages fine (inl v) =
      let l = lane_of k r in
      let walks : is_walked l v.walk ≡ true =
      and_from _ _
      (and_from _ _ (test_of_walking v.walk v.is) (subst (λ (x : Queue). is_of_round l.queue x ≡ true) (sym v.queue) of))
      (subst (λ (n : ℕ). (n == l.next) ≡ true) (sym v.number) number) in
      kept_at (phase.Walk k v.walk) r e owes.rest _ v.narrow w.0 w.1 (and_from _ _ w.2 walks) (owes.rests pages) fine
      (ap (λ (o : Option (Doing ℕ)). walk_on s k v.walk o (queued r e)) v.past
      ∙ (λ i. perform (v.left i) (queued r e) (walked s k (v.queue i))))
  walks_on k q next t r e w of number fine_queue of_pages fine (inr v) =
      subst (λ (u : Doing Walk). Kept (perform u (queued r e) (walked s k q))) (sym v.left)
      (walked_on k q r e v.came w (fine_queue, of_pages, held_round times _ q of) fine v.is)

  -- behind an index that counts, by which it is begun or isn't
  shown_by : (test : Bool) (k : Which) (q : Queue) (next : ℕ) (t : Doing Walk) (r : Rounds) (e : E) → Working r
      → is_of_round (lane_of k r).queue q ≡ true → (next == (lane_of k r).next) ≡ true → IsSound q → q.pages ≡ pages
      → IsFine e → WalkGoes sized q next t
      → Kept (perform t (if test then queued r e else at_own (s.begun k) (queued r e)) (walked s k q))
  shown_by true k q next t r e w of number sure of_pages fine goes = walks_on k q next t r e w of number sure of_pages fine goes
  shown_by false k q next t r e w of number sure of_pages fine goes =
      walks_on k q next t r (s.begun k e) w of number sure of_pages (owes.begun k e fine) goes

  -- a look at the ring
  looks_on : (k : Which) (q : Queue) (next : ℕ) (t : Doing ℕ) (r : Rounds) (e : E) → Working r
      → is_of_round (lane_of k r).queue q ≡ true → (next == (lane_of k r).next) ≡ true → IsSound q → q.pages ≡ pages
      → IsFine e → LookGoes sized q next t → Kept (walk_from s k next q t (queued r e))
  looks_on k q next t r e w of number sure of_pages fine (inl v) =
      let l = lane_of k r in
      let walks : is_walked l v.walk ≡ true =
      and_from _ _
      (and_from _ _ (test_of_walking v.walk v.is) (subst (λ (x : Queue). is_of_round l.queue x ≡ true) (sym v.queue) of))
      (subst (λ (n : ℕ). (n == l.next) ≡ true) (sym v.number) number) in
      kept_at (phase.Walk k v.walk) r e owes.rest _ v.narrow w.0 w.1 (and_from _ _ w.2 walks) (owes.rests pages) fine
      (ap (λ (o : Option (Doing ℕ)). walk_on s k v.walk o (queued r e)) v.looks
      ∙ (λ i. walk_from s k (v.number i) (v.queue i) t (queued r e)))
  looks_on k q next t r e w of number sure of_pages fine (inr v) =
      subst (λ (u : Doing ℕ). Kept (walk_from s k next q u (queued r e))) (sym v.left)
      (shown_by (v.index == next) k q next (indexed_by q next v.index) r e w of number sure of_pages fine
      (indexed sized q next v.index sure))

  -- a reply to a walk
  led_on_walk : (o : Option (Doing ℕ)) (k : Which) (v : Walking) (r : Rounds) (e : E) (reply : Reply) → look_left v.stage v.queue v.next ≡ o
      → FirstAsks (walk_wants v) (walk_left v) o → Where (IsNarrowStage v.stage) → Working r
      → is_of_round (lane_of k r).queue v.queue ≡ true → (v.next == (lane_of k r).next) ≡ true → IsWalking v → v.queue.pages ≡ pages
      → IsFine e → IsReplyTo sized (root_op (walk_on s k v o (queued r e))) reply
      → Kept (root_next (walk_on s k v o (queued r e)) reply)
  led_on_walk (Some t) k v r e reply is asks narrow w of number sure of_pages fine fit =
      subst Kept (sym (on_next s k v (walk_wants v) (Some t) (queued r e) reply asks))
      (looks_on k v.queue v.next (led t reply) r e w of number sure.sound of_pages fine (look_goes sized v t reply is sure))
  led_on_walk None k v r e reply is asks narrow w of number sure of_pages fine fit =
      let own = subst (λ (op : Op). Fits op reply) (on_op s k v (walk_wants v) None (queued r e) asks) fit.0 in
      subst Kept (sym (on_next s k v (walk_wants v) None (queued r e) reply asks))
      (walks_on k v.queue v.next (led (walk_left v) reply) r e w of number sure.sound of_pages fine
      (walk_goes sized v reply is sure narrow own fit.1))

  -- ---- a chain is given back, a broken queue is told

  pair_on : (test : Bool) (a b : Op) (c : InHand) (len : ℕ) (r : Rounds) (e : E) (reply : Reply) → Where (len < 2 ^ 32)
      → Working r → is_in_hand times c r ≡ true → IsFine e
      → Kept (perform (led (if test
      then Wants a (λ reply. length_written r.port c.queue (lane_of c.which r).used len)
      else Wants b (λ reply. index_written r.port c.queue (lane_of c.which r).used)) reply) (queued r e)
      (λ f done. Ends (given_back s c.which f)))
  pair_on true a b c len r e reply long w h fine =
      kept_at (phase.Return (hold c.which c.queue 0) len returning.Half) r e owes.rest _ (λ is. (omega arith, long is)) w.0 w.1
      (and_from _ _ (and_from _ _ (and_from _ _ w.2 h) refl) refl) (owes.rests pages) fine refl
  pair_on false a b c len r e reply long w h fine =
      kept_at (phase.Return (hold c.which c.queue 0) 0 returning.Index) r e owes.rest _ (λ is. (omega arith, omega arith)) w.0 w.1
      (and_from _ _ (and_from _ _ (and_from _ _ w.2 h) refl) refl) (owes.rests pages) fine refl

  given_on : (k : Which) (r : Rounds) (e : E) → Working r → is_some (lane_of k r).queue ≡ true → IsFine e
      → Kept (Ends (given_back s k (queued r e)))
  given_on k r e w some fine =
      let now = change_works k lane_given r w some (λ x. x) (λ x. x) (given_short (lane_of k r)) refl in
      on k (at_own (s.over k) (at_rounds busy (at_rounds (in_lane k lane_given) (queued r e)))) now.0 (owes.over k e fine)

  hand_some : (c : InHand) (r : Rounds) → is_in_hand times c r ≡ true → is_some (lane_of c.which r).queue ≡ true
  hand_some c r is = held_some times _ c.queue (and_parts _ (is_taken_of times (lane_of c.which r).queue c.queue) is).1

  -- the port's interrupt
  interrupts_on : (c : InHand) (r : Rounds) (e : E) → Working r → is_in_hand times c r ≡ true → IsFine e
      → Kept (perform (interrupted r.port) (queued r e) (λ f done. Ends (given_back s c.which f)))
  interrupts_on c r e w h fine =
      kept_at (phase.Return (hold c.which c.queue 0) 0 returning.Interrupt) r e owes.rest _ (λ is. (omega arith, omega arith)) w.0 w.1
      (and_from _ _ (and_from _ _ (and_from _ _ w.2 h) refl) refl) (owes.rests pages) fine refl

  -- at once, or where the driver's event says so
  told_on : (has : Bool) (c : InHand) (r : Rounds) (e : E) → c.queue.accepted.event_index ≡ has → Working r → is_in_hand times c r ≡ true
      → IsFine e
      → Kept (perform (if has then event_read r.port c.queue (lane_of c.which r).used else interrupted r.port) (queued r e)
      (λ f done. Ends (given_back s c.which f)))
  told_on true c r e is w h fine =
      kept_at (phase.Return (hold c.which c.queue 0) 0 returning.Event) r e owes.rest _ (λ yes. (omega arith, omega arith)) w.0 w.1
      (and_from _ _ (and_from _ _ (and_from _ _ w.2 h) refl) is) (owes.rests pages) fine refl
  told_on false c r e is w h fine = interrupts_on c r e w h fine

  event_on : (test : Bool) (c : InHand) (r : Rounds) (e : E) → Working r → is_in_hand times c r ≡ true → IsFine e
      → Kept (perform (if test then interrupted r.port else Gives tt) (queued r e) (λ f done. Ends (given_back s c.which f)))
  event_on true c r e w h fine = interrupts_on c r e w h fine
  event_on false c r e w h fine = given_on c.which r e w (hand_some c r h) fine

  returns_on : (stage : ReturnStage) (c : InHand) (len : ℕ) (r : Rounds) (e : E) (reply : Reply) → Where (len < 2 ^ 32)
      → Working r → is_in_hand times c r ≡ true → IsFine e
      → Kept (perform (led (return_left stage (used_chain c len r)) reply) (queued r e)
      (λ f done. Ends (given_back s c.which f)))
  returns_on returning.Pair c len r e reply long w h fine =
      pair_on (pair_place c.queue (lane_of c.which r).used % 4096 == 4092) _ _ c len r e reply long w h fine
  returns_on returning.Half c len r e reply long w h fine =
      kept_at (phase.Return (hold c.which c.queue 0) 0 returning.Index) r e owes.rest _ (λ is. (omega arith, omega arith)) w.0 w.1
      (and_from _ _ (and_from _ _ (and_from _ _ w.2 h) refl) refl) (owes.rests pages) fine refl
  returns_on returning.Index c len r e reply long w h fine = told_on c.queue.accepted.event_index c r e refl w h fine
  returns_on returning.Event c len r e reply long w h fine =
      event_on ((lane_of c.which r).used == index_in reply) c r e w h fine
  returns_on returning.Interrupt c len r e reply long w h fine =
      kept_at (phase.Return (hold c.which c.queue 0) 0 returning.Line) r e owes.rest _ (λ is. (omega arith, omega arith)) w.0 w.1
      (and_from _ _ (and_from _ _ (and_from _ _ w.2 h) refl) refl) (owes.rests pages) fine refl
  returns_on returning.Line c len r e reply long w h fine = given_on c.which r e w (hand_some c r h) fine

  broken_ends : (k : Which) (r : Rounds) (e : E) → Working r → IsFine e → Kept (Ends (broken_off s k (queued r e)))
  broken_ends k r e w fine =
      ended (round_over r) (s.over k e) (round_over_is s times sized port pages r w.0) (over_next s times sized port pages r)
      (owes.over k e fine)

  line_on : (test : Bool) (k : Which) (r : Rounds) (e : E) → Working r → is_some (lane_of k r).queue ≡ true → IsFine e
      → Kept (perform (if test then line_raised else Gives tt) (queued r e) (λ f done. Ends (broken_off s k f)))
  line_on true k r e w some fine =
      kept_at (phase.Break k breaking.Line) r e owes.rest _ (λ is. tt) w.0 w.1 (and_from _ _ w.2 some) (owes.rests pages) fine refl
  line_on false k r e w some fine = broken_ends k r e w fine

  broke_on : (reply : Reply) (k : Which) (r : Rounds) (e : E) → Working r → is_some (lane_of k r).queue ≡ true
      → IsFine e → Kept (perform (broke reply) (queued r e) (λ f done. Ends (broken_off s k f)))
  broke_on (Word raised) k r e w some fine = line_on (raised == 1) k r e w some fine
  broke_on reply k r e w some fine = broken_ends k r e w fine

  breaks_on : (stage : BreakStage) (k : Which) (r : Rounds) (e : E) (reply : Reply) → Working r
      → is_some (lane_of k r).queue ≡ true → IsFine e
      → Kept (perform (led (break_left stage r.port) reply) (queued r e) (λ f done. Ends (broken_off s k f)))
  breaks_on breaking.Port k r e reply w some fine = broke_on reply k r e w some fine
  breaks_on breaking.Line k r e reply w some fine = broken_ends k r e w fine

  -- ---- the host object answered

  busy_by : (received : Bool) (r : Rounds) (e : E) → Round r → IsFine e
      → Kept (Ends (on_from s First (if received then at_rounds busy (queued r e) else queued r e)))
  busy_by true r e it fine = on First (queued (busy r) e) it fine
  busy_by false r e it fine = on First (queued r e) it fine

  answer_on : (r : Rounds) (t : Acting E Bool) → Round r → Next r → is_asking r.due ≡ true
      → Goes s hand is_work IsFine sized answering_of work.Answer pages Any t → Kept (during t r (answered s))
  answer_on r t it next asking goes =
      led_on answering_of work.Answer Any r (answered s)
      (λ e g fine is. kept_at phase.Question r e g _ (λ is. tt) it next asking is fine refl)
      (λ e received fine any. busy_by received r e it fine) t goes

  -- ---- inside a group

  inside_on : (p : Phase) (r : Rounds) (e : E) (g : G) (reply : Reply) → Where (IsNarrowPhase p) → Round r → Next r
      → is_place times p r ≡ true → is_work (work_of p) pages g ≡ true → IsFine e
      → IsReplyTo sized (root_op (left_at s p (hand g) (queued r e))) reply
      → Kept (root_next (left_at s p (hand g) (queued r e)) reply)
  inside_on phase.Between r e g reply narrow it next place works fine fit = ended r e it next fine
  inside_on phase.Question r e g reply narrow it next place works fine fit =
      answer_on r ((hand g).answering e reply) it next place (owes.answering pages g e reply small fine works fit)
  inside_on (phase.Walk k v) r e g reply narrow it next place works fine fit =
      let at = and_parts (is_at_lane r.due) (is_walked (lane_of k r) v) place in
      let is = walking_is s times port pages few k v r it.0 at.1 in
      let p1 = and_parts _ (v.next == (lane_of k r).next) at.1 in
      let p0 = and_parts (is_walking v) (is_of_round (lane_of k r).queue v.queue) p1.0 in
      led_on_walk (look_left v.stage v.queue v.next) k v r e reply refl (walk_first v (walk_wants v) (walk_asks v is.0)) narrow
      (it, next, at.0) p0.1 p1.1 is.0 is.1 fine fit
  inside_on (phase.Take c) r e g reply narrow it next place works fine fit =
      let at = and_parts (is_at_lane r.due) (is_in_hand times c r) place in
      taking_on c.which c.queue c.head r ((hand g).taking e reply) narrow (it, next, at.0) (held_of s times port pages few c r it.0 at.1)
      (owes.taking pages c.which g e reply small fine works fit)
  inside_on (phase.Serve c) r e g reply narrow it next place works fine fit =
      let at = and_parts (is_at_lane r.due) (is_in_hand times c r) place in
      serving_on c.which c.queue c.head r ((hand g).serving e reply) narrow (it, next, at.0) (held_of s times port pages few c r it.0 at.1)
      (owes.serving pages c.which g e reply small fine works fit)
  inside_on (phase.Return c len stage) r e g reply narrow it next place works fine fit =
      let p2 = and_parts _ (may_return stage c.queue) place in
      let p1 = and_parts _ (is_told stage len c.head) p2.0 in
      let p0 = and_parts (is_at_lane r.due) (is_in_hand times c r) p1.0 in
      let asks = return_asks stage (used_chain c len r) in
      subst Kept (sym (perform_next (return_left stage (used_chain c len r)) (queued r e)
      (λ f done. Ends (given_back s c.which f)) asks.0 reply asks.1))
      (returns_on stage c len r e reply (λ is. (narrow is).1) (it, next, p0.0) p0.1 fine)
  inside_on (phase.Break k stage) r e g reply narrow it next place works fine fit =
      let at = and_parts (is_at_lane r.due) (is_some (lane_of k r).queue) place in
      let asks = break_asks stage r.port in
      subst Kept (sym (perform_next (break_left stage r.port) (queued r e)
      (λ f done. Ends (broken_off s k f)) asks.0 reply asks.1))
      (breaks_on stage k r e reply (it, next, at.0) at.1 fine)

  -- the parts of what is kept
  pub record Parts (p : Phase) (r : Rounds) (g : G) : Type 0 where
    pub it : Round r
    pub next : Next r
    pub place : is_place times p r ≡ true
    pub works : is_work (work_of p) pages g ≡ true
    pub narrow : Where (IsNarrowPhase p)

  pub parts_of : (p : Phase) (r : Rounds) (g : G) → is_state s times is_work p r g ≡ true → AreShort sized r → Where (IsNarrowPhase p)
      → r.port ≡ port → r.pages ≡ pages → Parts p r g
  parts_of p r g is short narrow at_port of_pages =
      let p1 = and_parts _ (is_work (work_of p) r.pages g) is in
      let p0 = and_parts _ (is_place times p r) p1.0 in
      let fits = round_of s times sized r p0.0 short in
      record {
        it =
            subst (λ (n : ℕ). IsRound s times sized port n r) of_pages
            (subst (λ (n : ℕ). IsRound s times sized n r.pages r) at_port fits.0);
        next = fits.1;
        place = p0.1;
        works = subst (λ (n : ℕ). is_work (work_of p) n g ≡ true) of_pages p1.1;
        narrow = narrow;
      }

  root_on : (t : Script (Queued E)) (reply : Reply) → Kept t → IsReplyTo sized (root_op t) reply → Kept (root_next t reply)
  root_on t reply k fit =
      let v = parts_of k.phase k.rounds k.stage k.is k.short k.narrow k.at_port k.of_pages in
      subst (λ (x : Script (Queued E)). Kept (root_next x reply)) k.left
      (inside_on k.phase k.rounds k.own k.stage reply v.narrow v.it v.next v.place v.works k.fine
      (subst (λ (x : Script (Queued E)). IsReplyTo sized (root_op x) reply) (sym k.left) fit))

  -- ---- a group begins

  from_by : (test : Bool) (r : Rounds) (e : E) (running : Bool) → (running && s.may_ask && s.asks e) ≡ test → Round r
      → IsFine e → Kept (Ends (if test then at_rounds (with_due due.Question) (queued r e) else on_from s First (queued r e)))
  from_by true r e running is it fine =
      let may = and_parts running s.may_ask (and_parts _ (s.asks e) is).0 in
      ended (with_due due.Question r) e it may.1 fine
  from_by false r e running is it fine = on First (queued r e) it fine

  look_by : (test : Bool) (look : PortLook) (r : Rounds) (e : E) → Where (IsSmallReply (Reply.Port look)) → Round r → IsFine e
      → Kept (Ends (round_from s (is_running look.status)
      (at_rounds (round_begun s.last look) (if test then at_own s.reset (queued r e) else queued r e))))
  look_by true look r e seen it fine =
      from_by (is_running look.status && s.may_ask && s.asks (s.reset e)) (round_begun s.last look r) (s.reset e)
      (is_running look.status) refl (round_begun_is s times sized port pages look r seen it) (owes.reset e fine)
  look_by false look r e seen it fine =
      from_by (is_running look.status && s.may_ask && s.asks e) (round_begun s.last look r) e (is_running look.status) refl
      (round_begun_is s times sized port pages look r seen it) fine

  looked_on : (reply : Reply) (r : Rounds) (e : E) → Where (IsSmallReply reply) → Round r → Next r → IsFine e
      → Kept (Ends (looked s reply (queued r e)))
  looked_on (Reply.Port look) r e seen it next fine = look_by look.was_reset look r e seen it fine
  looked_on reply r e seen it next fine = ended r e it next fine

  waited_on : (r : Rounds) (e : E) → Round r → is_over r ≡ true → IsFine e
      → Kept (Ends (at_rounds (with_due due.Look) (queued r e)))
  waited_on r e it over fine = ended (with_due due.Look r) e it over fine

  over_on : (test : Bool) (r : Rounds) (e : E) (reply : Reply) → Where (IsSmallReply reply) → Round r → IsFine e
      → Kept (root_next (over_begins s test (queued (round_over r) e)) reply)
  over_on true r e reply seen it fine =
      looked_on reply (round_over r) e seen (round_over_is s times sized port pages r it) (over_next s times sized port pages r) fine
  over_on false r e reply seen it fine = waited_on (round_over r) e (round_over_is s times sized port pages r it) refl fine

  -- a chain that waited goes on
  freed_works : (k : Which) (r : Rounds) → Working r → is_some (lane_of k r).queue ≡ true
      → Working (in_lane k lane_freed r)
  freed_works k r w some =
      change_works k lane_freed r w some (λ is. lane_held s port pages k None (lane_of k r) refl is)
      (λ is. or_right times true refl) (freed_short (lane_of k r)) refl

  module _ (k : Which) (c : Chain) (r : Rounds) (w : Working r) (some : is_some (lane_of k r).queue ≡ true)
      (may : times ≡ true) (chain : IsChain s pages k c) (short : IsShortChain sized (Some c)) where
    freed_held : Hand_of k c.queue (in_lane k lane_freed r)
    freed_held = (
      chain.sound,
      chain.pages_are,
      subst (λ (b : Bool). is_taken_of b (lane_of k (in_lane k lane_freed r)).queue c.queue ≡ true) (sym may)
          (subst (λ (o : Option Queue). is_some o ≡ true) (sym (queue_in lane_freed r k k refl)) some),
    )

    pub freed_on : (e : E) → IsFine e → Kept (serving s k c (queued (in_lane k lane_freed r) e))
    freed_on e fine = serves_on k c (in_lane k lane_freed r) e (freed_works k r w some) freed_held chain short fine

    timed_on : (o : Option E) (e : E) (now : ℕ) → Where (now < 2 ^ 64) → s.passes k c now e ≡ o → IsFine e
        → Kept (timed s k c (queued r e) o)
    timed_on None e now early is fine = behind k (queued r e) w.0 fine
    timed_on (Some f) e now early is fine = freed_on f (owes.passes pages k c now e f small early fine chain short is)

    moment_small : (reply : Reply) → Where (IsSmallReply reply) → Where (time_of reply < 2 ^ 64)
    moment_small (Word now) small is = small is
    moment_small reply small is = omega arith

    goes_by : (test : Bool) (e : E) (reply : Reply) → IsFine e
        → IsReplyTo sized (root_op (if test then time_asked s k c (queued r e)
        else serving s k c (at_rounds (in_lane k lane_freed) (queued r e)))) reply
        → Kept (root_next (if test then time_asked s k c (queued r e)
        else serving s k c (at_rounds (in_lane k lane_freed) (queued r e))) reply)
    goes_by true e reply fine fit =
        timed_on (s.passes k c (time_of reply) e) e (time_of reply) (moment_small reply fit.1) refl fine
    goes_by false e reply fine fit = root_on _ reply (freed_on e fine) fit

  flaw_on : (flaw : Option Why) (k : Which) (q : Queue) (r : Rounds) (e : E) (reply : Reply) → queue_flaw q ≡ flaw
      → Working r → (lane_of k r).queue ≡ Some q → q.pages ≡ pages → IsFine e
      → Kept (root_next (walk_begun s k q flaw (queued r e)) reply)
  flaw_on (Some why) k q r e reply is w shown of_pages fine =
      broke_on reply k r e w (subst (λ (o : Option Queue). is_some o ≡ true) (sym shown) refl) fine
  flaw_on None k q r e reply is w shown of_pages fine =
      let next = (lane_of k r).next in
      let sure = sound q (subst (λ (n : ℕ). n < 2 ^ 32) (sym of_pages) few) is in
      looks_on k q next (index_seen q next (index_in reply)) r e w (of_shown (lane_of k r).queue q shown) (is_eq next next refl) sure
      of_pages fine (seen_goes sized q next sure (index_in reply))

  waits_where : (b : Bool) (c : Chain) → (b || not (is_some (Some c))) ≡ true → b ≡ true
  waits_where true c is = refl
  waits_where false c is = cc

  pub own_waits : (has : Bool) (l : Lane) (c : Chain) → is_own_lane times has l ≡ true → l.waiting ≡ Some c → times ≡ true
  own_waits true l c is waits =
      waits_where times c (subst (λ (o : Option Chain). (times || not (is_some o)) ≡ true) waits is)
  own_waits false l c is waits =
      let p3 = and_parts _ (not l.is_kicked) is in
      let p2 = and_parts _ (l.used == 0) p3.0 in
      let p1 = and_parts _ (l.next == 0) p2.0 in
      let p0 = and_parts (not (is_some l.queue)) (not (is_some l.waiting)) p1.0 in
      let wrong : not true ≡ true = subst (λ (o : Option Chain). not (is_some o) ≡ true) waits p0.1 in
      absurd (cc)

  lane_on : (shown : Option Queue) (waiting : Option Chain) (k : Which) (r : Rounds) (e : E) (reply : Reply)
      → (lane_of k r).queue ≡ shown → (lane_of k r).waiting ≡ waiting → Working r → IsFine e
      → IsReplyTo sized (root_op (lane_begins s k shown waiting (queued r e))) reply
      → Kept (root_next (lane_begins s k shown waiting (queued r e)) reply)
  lane_on None waiting k r e reply shown is w fine fit = ended r e w.0 w.1 fine
  lane_on (Some q) (Some c) k r e reply shown is w fine fit =
      let some = subst (λ (o : Option Queue). is_some o ≡ true) (sym shown) refl in
      let l = lane_of k r in
      let parts = and_parts (is_queue s pages l.queue) (is_waiting s pages k l.waiting) (lane_is s port pages k r w.0.0) in
      let chain = chain_of s pages few k c (subst (λ (o : Option Chain). is_waiting s pages k o ≡ true) is parts.1) in
      let short = subst (IsShortChain sized) is (short_of sized k r w.0.2).0 in
      let may = own_waits _ l c (own_lane s times k r w.0.1) is in
      goes_by k c r w some may chain short (s.is_timed k c e) e reply fine fit
  lane_on (Some q) None k r e reply shown is w fine fit =
      let own : is_queue s pages (Some q) ≡ true =
      subst (λ (o : Option Queue). is_queue s pages o ≡ true) shown (lane_queue s times port pages few k r w.0.0) in
      flaw_on (queue_flaw q) k q r e reply refl w shown (eqb-true q.pages pages own) fine

  next_on : (o : Option Which) (r : Rounds) (e : E) (reply : Reply) → Working r → IsFine e
      → IsReplyTo sized (root_op (next_begins s o (queued r e))) reply → Kept (root_next (next_begins s o (queued r e)) reply)
  next_on (Some k) r e reply w fine fit =
      lane_on (lane_of k r).queue (lane_of k r).waiting k r e reply refl refl w fine fit
  next_on None r e reply w fine fit = over_on r.is_busy r e reply fit.1 w.0 fine

  begins_on : (o : Due) (r : Rounds) (e : E) (reply : Reply) → r.due ≡ o → Round r → Next r → IsFine e
      → IsReplyTo sized (root_op (begins_at s o (queued r e))) reply → Kept (root_next (begins_at s o (queued r e)) reply)
  begins_on due.Look r e reply is it next fine fit = looked_on reply r e fit.1 it next fine
  begins_on due.Question r e reply is it next fine fit =
      answer_on r (s.answer e reply) it next (subst (λ (o : Due). is_asking o ≡ true) (sym is) refl)
      (owes.answer pages e e reply small fine fit)
  begins_on due.Wait r e reply is it next fine fit =
      waited_on r e it (subst (λ (o : Due). is_next s.may_ask o r ≡ true) is next) fine
  begins_on (due.Lane k) r e reply is it next fine fit =
      next_on (due_from s k (queued r e)) r e reply
      (it, next, subst (λ (o : Due). is_at_lane o ≡ true) (sym is) refl) fine fit

  -- inside a group an act is wanted, whatever the data
  pub holds_of : (p : Phase) (r : Rounds) (g : G) → is_between p ≡ false → Parts p r g → (op : Op) × Holds s p (hand g) r op
  holds_of phase.Between r g inside v = absurd (cc)
  holds_of phase.Question r g inside v = ((hand g).op, holds_question s (hand g) r phase.Question (hand g).op refl refl)
  holds_of (phase.Walk k v) r g inside is =
      let at = and_parts (is_at_lane r.due) (is_walked (lane_of k r) v) is.place in
      let sure = walking_is s times port pages few k v r is.it.0 at.1 in
      (walk_wants v, holds_walk s (hand g) r (phase.Walk k v) (walk_wants v) k v refl (walk_asks v sure.0))
  holds_of (phase.Take c) r g inside v = ((hand g).op, holds_take s (hand g) r (phase.Take c) (hand g).op c refl refl)
  holds_of (phase.Serve c) r g inside v = ((hand g).op, holds_serve s (hand g) r (phase.Serve c) (hand g).op c refl refl)
  holds_of (phase.Return c len stage) r g inside v =
      let asks = return_asks stage (used_chain c len r) in
      (asks.0, holds_return s (hand g) r (phase.Return c len stage) asks.0 c len stage (used_chain c len r) refl refl asks.1)
  holds_of (phase.Break k stage) r g inside v =
      let asks = break_asks stage r.port in
      (asks.0, holds_break s (hand g) r (phase.Break k stage) asks.0 k stage refl asks.1)

  abbrev Same : Script (Queued E) → Reply → Type 0
  Same t reply =
      (wants (queue_rules s changing) t ≡ root_op t) × (stepped (queue_rules s changing) t reply ≡ root_next t reply)

  step_in : (p : Phase) (r : Rounds) (e : E) (g : G) (reply : Reply) → is_between p ≡ false → Parts p r g → IsFine e
      → IsReplyTo sized (wants (queue_rules s changing) (left_at s p (hand g) (queued r e))) reply
      → Kept (stepped (queue_rules s changing) (left_at s p (hand g) (queued r e)) reply)
  step_in p r e g reply inside v fine fit =
      let h = holds_of p r g inside v in
      let same : Same (left_at s p (hand g) (queued r e)) reply =
      subst (λ (t : Script (Queued E)). Same t reply) (sym (h.1.1 e)) (refl, refl) in
      subst Kept (sym same.1)
      (inside_on p r e g reply v.narrow v.it v.next v.place v.works fine (subst (λ (op : Op). IsReplyTo sized op reply) same.0 fit))

  step_by : (p : Phase) (r : Rounds) (e : E) (g : G) (reply : Reply) → Parts p r g → IsFine e
      → IsReplyTo sized (wants (queue_rules s changing) (left_at s p (hand g) (queued r e))) reply
      → Kept (stepped (queue_rules s changing) (left_at s p (hand g) (queued r e)) reply)
  step_by phase.Between r e g reply v fine fit = begins_on r.due r e reply refl v.it v.next fine fit
  step_by phase.Question r e g reply v fine fit = step_in phase.Question r e g reply refl v fine fit
  step_by (phase.Walk k w) r e g reply v fine fit = step_in (phase.Walk k w) r e g reply refl v fine fit
  step_by (phase.Take c) r e g reply v fine fit = step_in (phase.Take c) r e g reply refl v fine fit
  step_by (phase.Serve c) r e g reply v fine fit = step_in (phase.Serve c) r e g reply refl v fine fit
  step_by (phase.Return c len stage) r e g reply v fine fit =
      step_in (phase.Return c len stage) r e g reply refl v fine fit
  step_by (phase.Break k stage) r e g reply v fine fit = step_in (phase.Break k stage) r e g reply refl v fine fit

  pub reply_on : (t : Script (Queued E)) (reply : Reply) → Kept t → IsReplyTo sized (wants (queue_rules s changing) t) reply
      → Kept (stepped (queue_rules s changing) t reply)
  reply_on t reply k fit =
      subst (λ (x : Script (Queued E)). Kept (stepped (queue_rules s changing) x reply)) k.left
      (step_by k.phase k.rounds k.own k.stage reply (parts_of k.phase k.rounds k.stage k.is k.short k.narrow k.at_port k.of_pages)
      k.fine (subst (λ (x : Script (Queued E)). IsReplyTo sized (wants (queue_rules s changing) x) reply) (sym k.left) fit))

  -- ---- a change

  -- changed data are fine where those before them were
  abbrev pub ChangesFine : C → Type 0
  ChangesFine c = (e : E) → IsFine e → IsFine (changing.between c e) × IsFine (changing.inside c e)

  cut_on : (o : Option Reply) (c : C) (p : Phase) (r : Rounds) (e : E) (g : G) (op : Op)
      (next : Queued E → Reply → Script (Queued E))
      → changing.cut c e op ≡ o → ((f : E) → left_at s p (hand g) (queued r f) ≡ Asks (queued r f) op next)
      → Parts p r g → IsFine (changing.inside c e)
      → Kept (cut_by o (queued r (changing.inside c e)) op next)
  cut_on None c p r e g op next is holds v fine =
      kept_at p r (changing.inside c e) g _ v.narrow v.it v.next v.place v.works fine (holds (changing.inside c e))
  cut_on (Some reply) c p r e g op next is holds v fine =
      let f = changing.inside c e in
      let fit : IsReplyTo sized (root_op (left_at s p (hand g) (queued r f))) reply =
      subst (λ (t : Script (Queued E)). IsReplyTo sized (root_op t) reply) (sym (holds f))
      (kind.cut c e op reply is, owes.cut c e op reply is) in
      subst (λ (t : Script (Queued E)). Kept (root_next t reply)) (holds f)
      (inside_on p r f g reply v.narrow v.it v.next v.place v.works fine fit)

  change_in : (p : Phase) (r : Rounds) (e : E) (g : G) (c : C) → is_between p ≡ false → Parts p r g
      → IsFine (changing.inside c e)
      → Kept (changed_at (queue_rules s changing) c (left_at s p (hand g) (queued r e)))
  change_in p r e g c inside v fine =
      let h = holds_of p r g inside v in
      subst (λ (t : Script (Queued E)). Kept (changed_at (queue_rules s changing) c t)) (sym (h.1.1 e))
      (cut_on (changing.cut c e h.0) c p r e g h.0 h.1.0 refl h.1.1 v fine)

  change_by : (p : Phase) (r : Rounds) (e : E) (g : G) (c : C) → Parts p r g → IsFine e → ChangesFine c
      → Kept (changed_at (queue_rules s changing) c (left_at s p (hand g) (queued r e)))
  change_by phase.Between r e g c v fine changes = ended r (changing.between c e) v.it v.next (changes e fine).0
  change_by phase.Question r e g c v fine changes = change_in phase.Question r e g c refl v (changes e fine).1
  change_by (phase.Walk k w) r e g c v fine changes = change_in (phase.Walk k w) r e g c refl v (changes e fine).1
  change_by (phase.Take h) r e g c v fine changes = change_in (phase.Take h) r e g c refl v (changes e fine).1
  change_by (phase.Serve h) r e g c v fine changes = change_in (phase.Serve h) r e g c refl v (changes e fine).1
  change_by (phase.Return h len stage) r e g c v fine changes =
      change_in (phase.Return h len stage) r e g c refl v (changes e fine).1
  change_by (phase.Break k stage) r e g c v fine changes = change_in (phase.Break k stage) r e g c refl v (changes e fine).1

  pub change_on : (t : Script (Queued E)) (c : C) → Kept t → ChangesFine c → Kept (changed_at (queue_rules s changing) c t)
  change_on t c k changes =
      subst (λ (x : Script (Queued E)). Kept (changed_at (queue_rules s changing) c x)) k.left
      (change_by k.phase k.rounds k.own k.stage c (parts_of k.phase k.rounds k.stage k.is k.short k.narrow k.at_port k.of_pages)
      k.fine changes)

  -- ---- the device that has done nothing

  pub new_on : (e : E) → IsFine e → Kept (Ends (queued (new_rounds port pages) e))
  new_on e fine =
      ended (new_rounds port pages) e
      (new_are s port pages, new_own s times port pages, (short_new sized, short_new sized, short_new sized)) refl fine
