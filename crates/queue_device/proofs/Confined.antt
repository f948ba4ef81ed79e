-- A device with queues asks for no act but its own inside RAM, and guest time where a group begins with it, where its kind keeps to
-- its own: once for all kinds.
use Rattle.std.proofs.Common.{◌≡◌, ℕ, ◌^◌, ◌<◌, ◌==◌, ◌&&◌, refl, sym, subst, ◌∙◌, Bool, true, false, if◌then◌else◌, inl, inr, Option, Some, None, is_some, List}
use Rattle.std.proofs.lemmas.Bool.{and_parts, eqb-true}
use Rattle.vm_types.specs.declared.op.Op.{Op}
use Rattle.vm_types.specs.declared.op.Op.TheVariants.{Board}
use Rattle.vm_types.specs.declared.op.BoardOp.TheVariants.{RaiseLine}
use Rattle.vm_types.specs.declared.op.OutOp.{OutOp}
use Rattle.vm_types.specs.Fits.{Fits}
use Rattle.vm_types.specs.declared.port_look.PortLook.{PortLook}
use Rattle.vm_types.specs.declared.reply.Reply.{Reply}
use Rattle.device_trace.specs.Acts.{IsAskedBy}
use Rattle.device_trace.specs.Doing.{Doing}
use Rattle.device_trace.specs.Keeps as trees
use Rattle.device_trace.specs.Script.{Script, Ends, Asks, perform}
use Rattle.device_trace.specs.States.{Leads, changed_at, stepped, wants}
use Rattle.device_trace.specs.Traces.{Changing, Item}
use Rattle.device_trace.proofs.Keeping.{keeps_both, stays_if, stays_perform}
use Rattle.device_trace.proofs.Leading.{change_keeps, leads_keep, step_keeps, wants_between}
use Rattle.vq_split.specs.declared.queue.Queue.{Queue}
use Rattle.vq_split.specs.declared.queue.Part.{Part}
use Rattle.vq_split.specs.declared.queue.Why.{Why}
use Rattle.vq_split.specs.declared.walk.Walk.{Walk}
use Rattle.vq_split.specs.declared.walk.Walk.TheVariants as walk
use Rattle.vq_split.specs.Chain.{indexed_by, queue_flaw, queue_look}
use Rattle.vq_split.specs.Inside.{IsInside, AreInside, WalkInside}
use Rattle.vq_split.specs.Walking.{IsSound}
use Rattle.vq_split.proofs.Inside.{indexed_keep, ring_looks, sound}
use Rattle.dev_core.specs.Inside.{Any}
use Rattle.dev_core.specs.Returns.{returned, broken}
use Rattle.dev_core.proofs.Asking.{broken_asks, indexed_asks, look_asks, returned_asks}
use Rattle.dev_core.proofs.Inside.{returned_keeps, broken_keeps}
use Rattle.queue_device.specs.declared.lanes.Due.{Due}
use Rattle.queue_device.specs.declared.lanes.Due.TheVariants as due
use Rattle.queue_device.specs.declared.lanes.Lane.{Lane}
use Rattle.queue_device.specs.declared.lanes.Rounds.{Rounds}
use Rattle.queue_device.specs.declared.lanes.Which.{Which}
use Rattle.queue_device.specs.declared.lanes.Which.TheVariants.{First, Second, Third}
use Rattle.queue_device.specs.Chains.{Chain, Taken}
use Rattle.queue_device.specs.Confined.{AreItsRounds, Confines, HasRounds, IsChain, IsConfined, IsDeviceAct, IsTaken, LeavesRounds}
use Rattle.queue_device.specs.Confined.{is_lane, is_queue, is_waiting}
use Rattle.queue_device.specs.Lanes.{busy, in_lane, is_running, lane_counted, lane_emptied, lane_freed, lane_given, lane_of}
use Rattle.queue_device.specs.Lanes.{lane_waiting, next_rounds, round_begun, round_over, with_due}
use Rattle.queue_device.specs.Rounds.{answered, at_own, at_rounds, begins, begins_at, broken_off, due_behind, due_from, given_back}
use Rattle.queue_device.specs.Rounds.{goes_on, index_read, index_shown, lane, lane_begins, look_begins, looked, next_begins, on_behind, on_from}
use Rattle.queue_device.specs.Rounds.{over_begins, own_changing, question_begins, queue_rules, round_broken, round_from, served}
use Rattle.queue_device.specs.Rounds.{serving, taken, taking, time_asked, time_of, timed, took, wait_begins, walk_begun, walk_from, walked}
use Rattle.queue_device.specs.Timing.{is_timed_left, timed_due, timed_lane, timed_next}
use Rattle.queue_device.specs.Service.{Queued, Service}
use Rattle.queue_device.proofs.Acting.{keeps_when, stays_during}
use Rattle.queue_device.proofs.Keeping.{begun_are, chain_of, lane_held, lane_in, lane_is, next_are, over_are, test_of_chain}

module _ {E C : Type 0} (s : Service E) (changing : Changing E C) (times : Bool) (calls : OutOp → Bool) (port pages : ℕ)
    (kind : Confines s changing times calls) where
  abbrev D : Type 0
  D = Queued E

  abbrev P : Op → Type 0
  P = IsDeviceAct false calls port pages

  abbrev R : D → Type 0
  R = HasRounds s port pages

  abbrev S : D → D → Type 0
  S = LeavesRounds {E = E}

  abbrev Confined : Script D → Type 0
  Confined = IsConfined s calls port pages

  -- what begins a group, with guest time where a chain is timed
  abbrev pub Opened : Option (Which × Chain) → Script D → Type 0
  Opened timed t = trees.Opens (IsDeviceAct (is_some timed) calls port pages) P R S t

  -- ---- data with the rounds of this device

  pub same : (d : D) → S d d
  same d = refl

  pub again : (d e f : D) → S d e → S e f → S d f
  again d e f before after = after ∙ before

  pub kept : (d e : D) → R d → S d e → R e
  kept d e is left = subst (λ (r : Rounds). AreItsRounds s port pages r) (sym left) is

  next_port : (o : Option Which) (r : Rounds) → (next_rounds o r).port ≡ r.port
  next_port (Some k) r = refl
  next_port None r = refl

  in_port : (k : Which) (change : Lane → Lane) (r : Rounds) → (in_lane k change r).port ≡ r.port
  in_port First change r = refl
  in_port Second change r = refl
  in_port Third change r = refl

  -- rounds that go on, or of which a lane changes
  nexts : (o : Option Which) (r : Rounds) → AreItsRounds s port pages r → AreItsRounds s port pages (next_rounds o r)
  nexts o r is = (next_port o r ∙ is.0, λ few. next_are s port pages o r (is.1 few))

  in_rounds : (k : Which) (change : Lane → Lane) (r : Rounds) → AreItsRounds s port pages r
      → (pages < 2 ^ 32 → is_lane s pages k (lane_of k r) ≡ true → is_lane s pages k (change (lane_of k r)) ≡ true)
      → AreItsRounds s port pages (in_lane k change r)
  in_rounds k change r is keeps =
      (in_port k change r ∙ is.0, λ few. lane_in s port pages k change r (is.1 few) (keeps few))

  pub overs : (r : Rounds) → AreItsRounds s port pages r → AreItsRounds s port pages (round_over r)
  overs r is = (is.0, λ few. over_are s port pages r (is.1 few))

  pub on : (k : Which) (d : D) → R d → R (on_from s k d)
  on k d is = nexts (due_from s k d) d.rounds is

  behind : (k : Which) (d : D) → R d → R (on_behind s k d)
  behind k d is = nexts (due_behind s k d) d.rounds is

  counted : (k : Which) (d : D) → R d → R (at_rounds (in_lane k lane_counted) d)
  counted k d is = in_rounds k lane_counted d.rounds is (λ few fine. fine)

  emptied : (k : Which) (d : D) → R d → R (at_rounds (in_lane k lane_emptied) d)
  emptied k d is = in_rounds k lane_emptied d.rounds is (λ few fine. fine)

  freed : (k : Which) (r : Rounds) → AreItsRounds s port pages r → AreItsRounds s port pages (in_lane k lane_freed r)
  freed k r is = in_rounds k lane_freed r is (λ few fine. lane_held s port pages k None (lane_of k r) refl fine)

  pub given : (k : Which) (d : D) → R d → R (given_back s k d)
  given k d is =
      on k (at_own (s.over k) (at_rounds busy (at_rounds (in_lane k lane_given) d)))
      (in_rounds k lane_given d.rounds is (λ few fine. fine))

  waits_on : (k : Which) (c : Chain) (d : D) → R d → (pages < 2 ^ 32 → IsChain s pages k c)
      → R (at_rounds (with_due (due.Lane k)) (at_rounds (in_lane k (lane_waiting c)) d))
  waits_on k c d is chain =
      in_rounds k (lane_waiting c) d.rounds is
      (λ few fine. lane_held s port pages k (Some c) (lane_of k d.rounds) (test_of_chain s pages k c (chain few)) fine)

  -- a queue that may be worked on
  abbrev pub Stands : Queue → Type 0
  Stands q = pages < 2 ^ 32 → IsSound q × (q.pages ≡ pages)

  -- ---- acts

  pub at_port : (d : D) → R d → d.rounds.port ≡ port
  at_port d is = is.0

  pub line : IsAskedBy false calls port (Board RaiseLine)
  line = inr (refl, tt)

  pub reads : (at len : ℕ) → IsAskedBy false calls port (Op.Read at len)
  reads at len = inr (tt, tt)

  pub writes : (at : ℕ) (piece : List ℕ) → IsAskedBy false calls port (Op.Write at piece)
  writes at piece = inr (tt, tt)

  -- the acts of what is performed, and what it comes to
  pub performs : {A : Type 0} (Q : A → Type 0) (t : Doing A) (d : D) (more : D → A → Script D)
      → (pages < 2 ^ 32 → trees.Keeps (IsInside pages) Q t) → trees.Keeps (IsAskedBy false calls port) (Any {A = A}) t
      → ((e : D) (a : A) → S d e → (pages < 2 ^ 32 → Q a) → Confined (more e a)) → Confined (perform t d more)
  performs Q t d more inside asks next =
      stays_perform P R S same again (λ a. (pages < 2 ^ 32 → Q a) × Any a) t d more
      (keeps_both (λ op. pages < 2 ^ 32 → IsInside pages op) (IsAskedBy false calls port) (λ a. pages < 2 ^ 32 → Q a) Any t
      (keeps_when (pages < 2 ^ 32) (IsInside pages) Q t inside) asks)
      (λ e a left is. next e a left is.0)

  broken_stay : (k : Which) (d : D) → R d → Confined (round_broken s k d)
  broken_stay k d is =
      let p = d.rounds.port in
      performs (Any {A = Unit {0}}) (broken p) d (λ e done. Ends (broken_off s k e)) (λ few. broken_keeps pages p)
      (broken_asks (IsAskedBy false calls port) line p (inr (at_port d is, tt)))
      (λ e done left any. overs e.rounds (kept d e is left))

  returned_stays : (k : Which) (q : Queue) (head : ℕ) (d : D) (len : ℕ) → R d → Stands q
      → Confined (served s k q head d (Some len))
  returned_stays k q head d len is fine =
      let p = d.rounds.port in
      let used = (lane s k d).used in
      let t = returned p q used head len in
      performs (Any {A = Unit {0}}) t d (λ e done. Ends (given_back s k e))
      (λ few. subst (λ (n : ℕ). trees.Keeps (IsInside n) (Any {A = Unit {0}}) t) (fine few).1
      (returned_keeps p q used head len (fine few).0))
      (returned_asks (IsAskedBy false calls port) line reads writes p (inr (at_port d is, tt)) q used head len)
      (λ e done left any. given k e (kept d e is left))

  -- ---- a chain

  pub served_stays : (k : Which) (q : Queue) (head : ℕ) (d : D) (len : Option ℕ) → R d → Stands q
      → Confined (served s k q head d len)
  served_stays k q head d None is fine = broken_stay k d is
  served_stays k q head d (Some len) is fine = returned_stays k q head d len is fine

  serving_stays : (k : Which) (c : Chain) (d : D) → R d → (pages < 2 ^ 32 → IsChain s pages k c) → Confined (serving s k c d)
  serving_stays k c d is chain =
      stays_during P R (λ (len : Option ℕ). Unit {0}) (s.serve k c d.own) d.rounds (served s k c.queue c.head) kept
      (λ e. is) (kind.serve port pages k c d.own chain)
      (λ e len has any. served_stays k c.queue c.head e len has (λ few. ((chain few).sound, (chain few).pages_are)))

  timed_stays : (k : Which) (c : Chain) (d : D) (o : Option E) → R d → (pages < 2 ^ 32 → IsChain s pages k c) → Confined (timed s k c d o)
  timed_stays k c d None is chain = behind k d is
  timed_stays k c d (Some own) is chain =
      serving_stays k c (record { rounds = in_lane k lane_freed d.rounds; own = own }) (freed k d.rounds is) chain

  taken_stays : (k : Which) (c : Chain) (d : D) → R d → (pages < 2 ^ 32 → IsChain s pages k c) → Confined (taken s k c d)
  taken_stays k c d is chain =
      stays_if P R S (s.is_timed k c d.own) (s.is_timed k c d.own) _ _ refl (λ asks. waits_on k c d is chain)
      (λ free. serving_stays k c d is chain)

  -- an act of the device's own is one too where guest time may be asked
  asked_more : (timed : Bool) (op : Op) → IsAskedBy false calls port op → IsAskedBy timed calls port op
  asked_more timed op (inl asks) = let wrong : false ≡ true = asks.0 in absurd (cc)
  asked_more timed op (inr own) = inr own

  opened : (timed : Option (Which × Chain)) (t : Script D) → Confined t → Opened timed t
  opened timed (Ends d) stays = stays
  opened timed (Asks d op on) stays = ((stays.0.0, asked_more (is_some timed) op stays.0.1), stays.1)

  goes_by : (timed : Bool) (k : Which) (c : Chain) (d : D) → R d → (pages < 2 ^ 32 → IsChain s pages k c)
      → Opened (if timed then Some (k, c) else None)
      (if timed then time_asked s k c d else serving s k c (at_rounds (in_lane k lane_freed) d))
  goes_by true k c d is chain = (
    (λ few. tt, inl (refl, refl)),
    λ e reply left fit. timed_stays k c e (s.passes k c (time_of reply) e.own) (kept d e is left) chain,
  )
  goes_by false k c d is chain =
      opened None _ (serving_stays k c (at_rounds (in_lane k lane_freed) d) (freed k d.rounds is) chain)

  goes_on_stays : (k : Which) (c : Chain) (d : D) → R d → (pages < 2 ^ 32 → IsChain s pages k c)
      → Opened (if s.is_timed k c d.own then Some (k, c) else None) (goes_on s k c d)
  goes_on_stays k c d is chain = goes_by (s.is_timed k c d.own) k c d is chain

  pub took_stays : (k : Which) (q : Queue) (head : ℕ) (d : D) (o : Option Taken) → R d → Stands q
      → (pages < 2 ^ 32 → IsTaken s pages k o) → Confined (took s k q head d o)
  took_stays k q head d None is fine held = broken_stay k d is
  took_stays k q head d (Some t) is fine held =
      taken_stays k (record { queue = q; head = head; parts = t.parts; got = t.got }) d is
      (λ few. record {
        pages_are = (fine few).1;
        sound = (fine few).0;
        parts = (held few).0;
        got = (held few).1;
        taken = (held few).2;
      })

  taking_stays : (k : Which) (q : Queue) (head : ℕ) (parts : List Part) (d : D) → R d → Stands q
      → (pages < 2 ^ 32 → AreInside pages parts) → Confined (taking s k q head parts d)
  taking_stays k q head parts d is fine inside =
      stays_during P R (λ (t : Option Taken). pages < 2 ^ 32 → IsTaken s pages k t) (s.take k parts d.own) d.rounds
      (took s k q head) kept (λ e. is) (kind.take port pages k parts d.own inside)
      (λ e t has held. took_stays k q head e t has fine held)

  pub walked_stays : (k : Which) (q : Queue) (d : D) (came : Walk) → R d → Stands q
      → (pages < 2 ^ 32 → WalkInside pages came) → Confined (walked s k q d came)
  walked_stays k q d (walk.Chain head parts) is fine inside =
      taking_stays k q head parts (at_rounds (in_lane k lane_counted) d) (counted k d is) fine inside
  walked_stays k q d walk.Empty is fine inside = behind k (at_rounds (in_lane k lane_emptied) d) (emptied k d is)
  walked_stays k q d (walk.Broken why) is fine inside = broken_stay k d is
  walked_stays k q d walk.More is fine inside = is

  shown_by : (k : Which) (test : Bool) (d : D) → R d → R (if test then d else at_own (s.begun k) d)
  shown_by k true d is = is
  shown_by k false d is = is

  -- behind the look at the ring
  read_stays : (k : Which) (next : ℕ) (q : Queue) (d : D) (index : ℕ) → R d → Stands q → Confined (index_read s k next q d index)
  read_stays k next q d index is fine =
      let now : D = index_shown s k next index d in
      let t : Doing Walk = indexed_by q next index in
      performs (WalkInside pages) t now (walked s k q)
      (λ few. subst (λ (n : ℕ). trees.Keeps (IsInside n) (WalkInside n) t) (fine few).1 (indexed_keep q next index (fine few).0))
      (indexed_asks (IsAskedBy false calls port) reads q next index)
      (λ e came left inside. walked_stays k q e came (kept now e (shown_by k (index == next) d is) left) fine inside)

  pub from_stays : (k : Which) (next : ℕ) (q : Queue) (t : Doing ℕ) (d : D) → R d → Stands q
      → (pages < 2 ^ 32 → trees.Keeps (IsInside pages) (Any {A = ℕ}) t) → trees.Keeps (IsAskedBy false calls port) (Any {A = ℕ}) t
      → Confined (walk_from s k next q t d)
  from_stays k next q t d is fine inside asks =
      performs (Any {A = ℕ}) t d (index_read s k next q) inside asks
      (λ e index left any. read_stays k next q e index (kept d e is left) fine)

  begun_stays : (k : Which) (q : Queue) (flaw : Option Why) (d : D) → queue_flaw q ≡ flaw → R d
      → (pages < 2 ^ 32 → q.pages ≡ pages) → Confined (walk_begun s k q flaw d)
  begun_stays k q (Some why) d it is of_pages = broken_stay k d is
  begun_stays k q None d it is of_pages =
      let next = (lane s k d).next in
      let fine : Stands q =
      λ few. (sound q (subst (λ (n : ℕ). n < 2 ^ 32) (sym (of_pages few)) few) it, of_pages few) in
      from_stays k next q (queue_look q next) d is fine
      (λ few. subst (λ (n : ℕ). trees.Keeps (IsInside n) (Any {A = ℕ}) (queue_look q next)) (of_pages few)
      (ring_looks q next (fine few).0))
      (look_asks (IsAskedBy false calls port) reads writes q next)

  -- ---- groups

  lane_stays : (k : Which) (o : Option Queue) (w : Option Chain) (d : D) → R d
      → (pages < 2 ^ 32 → is_queue s pages o ≡ true) → (pages < 2 ^ 32 → is_waiting s pages k w ≡ true)
      → Opened (timed_lane s k o w d.own) (lane_begins s k o w d)
  lane_stays k None w d is queue waiting = is
  lane_stays k (Some q) (Some c) d is queue waiting = goes_on_stays k c d is (λ few. chain_of s pages few k c (waiting few))
  lane_stays k (Some q) None d is queue waiting =
      opened None _ (begun_stays k q (queue_flaw q) d refl is (λ few. eqb-true _ _ (queue few)))

  from_on : (asks : Bool) (d : D) → R d → R (round_from s asks d)
  from_on asks d is = from_by (asks && s.may_ask && s.asks d.own)
    where
      from_by : (test : Bool) → R (if test then at_rounds (with_due due.Question) d else on_from s First d)
      from_by true = is
      from_by false = on First d is

  reset_on : (test : Bool) (d : D) → R d → R (if test then at_own s.reset d else d)
  reset_on true d is = is
  reset_on false d is = is

  begins_rounds : (look : PortLook) (r : Rounds) → AreItsRounds s port pages r
      → AreItsRounds s port pages (round_begun s.last look r)
  begins_rounds look r is = (is.0, λ few. begun_are s port pages s.last look r (is.1 few))

  looked_on : (reply : Reply) (d : D) → R d → R (looked s reply d)
  looked_on (Reply.Port look) d is =
      let e : D = if look.was_reset then at_own s.reset d else d in
      from_on (is_running look.status) (at_rounds (round_begun s.last look) e)
      (begins_rounds look e.rounds (reset_on look.was_reset d is))
  looked_on reply d is = is

  look_stays : (d : D) → R d → Confined (look_begins s d)
  look_stays d is = ((λ few. tt, inr (at_port d is, tt)), λ e reply left fit. looked_on reply e (kept d e is left))

  wait_stays : (d : D) → R d → Confined (wait_begins s d)
  wait_stays d is = ((λ few. tt, inr (tt, tt)), λ e reply left fit. kept d e is left)

  pub busy_by : (received : Bool) (d : D) → R d → R (if received then at_rounds busy d else d)
  busy_by true d is = is
  busy_by false d is = is

  question_stays : (d : D) → R d → Confined (question_begins s d)
  question_stays d is = (
    kind.question port pages d.own,
    λ e reply left fit.
        stays_during P R (λ (received : Bool). Unit {0}) (s.answer e.own reply) e.rounds (answered s) kept
        (λ f. kept d e is left) (kind.answer port pages d.own e.own reply fit)
        (λ f received has any. on First (if received then at_rounds busy f else f) (busy_by received f has)),
  )

  over_stays : (test : Bool) (d : D) → R d → Confined (over_begins s test d)
  over_stays true d is = look_stays d is
  over_stays false d is = wait_stays d is

  next_stays : (o : Option Which) (d : D) → R d → Opened (timed_next s o d) (next_begins s o d)
  next_stays (Some k) d is =
      let l = lane s k d in
      let fine = λ (few : pages < 2 ^ 32). and_parts (is_queue s pages l.queue) (is_waiting s pages k l.waiting)
      (lane_is s port pages k d.rounds (is.1 few)) in
      lane_stays k l.queue l.waiting d is (λ few. (fine few).0) (λ few. (fine few).1)
  next_stays None d is =
      let now : D = at_rounds round_over d in
      opened None (over_begins s d.rounds.is_busy now) (over_stays d.rounds.is_busy now (overs d.rounds is))

  begins_stay : (due : Due) (d : D) → R d → Opened (timed_due s due d) (begins_at s due d)
  begins_stay due.Look d is = opened None (look_begins s d) (look_stays d is)
  begins_stay due.Question d is = opened None (question_begins s d) (question_stays d is)
  begins_stay (due.Lane k) d is = next_stays (due_from s k d) d is
  begins_stay due.Wait d is = opened None (wait_begins s d) (wait_stays d is)

  -- what may begin the next group
  abbrev pub First_act : D → Op → Type 0
  First_act d op = IsDeviceAct (is_some (timed_due s d.rounds.due d)) calls port pages op

  opens : (d : D) → R d → Opened (timed_due s d.rounds.due d) (begins s d)
  opens d is = begins_stay d.rounds.due d is

  still : (c : C) (d : D) → R d → R ((own_changing changing).between c d)
  still c d is = is

  leaves : (c : C) (d : D) → S d ((own_changing changing).inside c d)
  leaves c d = refl

  pub act_confined : (t : Script D) → Confined t
      → IsDeviceAct (is_timed_left s t) calls port pages (wants (queue_rules s changing) t)
  act_confined (Ends d) is =
      wants_between (begins s) (own_changing changing) First_act P R S same again (λ d. (λ few. tt, inr (tt, tt))) opens still
      leaves (λ c d op reply is. kind.cut c d.own op reply is) d is
  act_confined (Asks d op on) is = is.0

  pub step_confined : (t : Script D) (reply : Reply) → Confined t → Fits (wants (queue_rules s changing) t) reply
      → Confined (stepped (queue_rules s changing) t reply)
  step_confined = step_keeps (begins s) (own_changing changing) First_act P R S same again (λ d. (λ few. tt, inr (tt, tt))) opens still leaves
      (λ c d op reply is. kind.cut c d.own op reply is)

  pub change_confined : (t : Script D) (c : C) → Confined t → Confined (changed_at (queue_rules s changing) c t)
  change_confined = change_keeps (begins s) (own_changing changing) First_act P R S same again (λ d. (λ few. tt, inr (tt, tt))) opens still leaves
      (λ c d op reply is. kind.cut c d.own op reply is)

  pub leads_confined : (t : Script D) (items : List (Item C)) (left : Script D) → Confined t
      → Leads (queue_rules s changing) t items left → Confined left
  leads_confined = leads_keep (begins s) (own_changing changing) First_act P R S same again (λ d. (λ few. tt, inr (tt, tt))) opens still leaves
      (λ c d op reply is. kind.cut c d.own op reply is)
