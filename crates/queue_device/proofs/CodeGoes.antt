-- What a call of the code leaves of a device passes the test.
use Rattle.std.proofs.Common.{◌≡◌, ℕ, ◌<◌, ◌^◌, ◌==◌, ◌||◌, not, refl, sym, ap, subst, ◌∙◌, Bool, true, false, Option, Some, is_some}
use Rattle.std.proofs.lemmas.Bool.{and_from, and_parts}
use Rattle.device_trace.specs.Doing.{Doing, Gives}
use Rattle.vq_split.specs.declared.queue.Queue.{Queue}
use Rattle.vq_split.specs.Kept.{are_inside, is_sound, is_stage, is_walking}
use Rattle.vq_split.specs.declared.walk.Walk.{Walk}
use Rattle.vq_split.specs.declared.walk.Walk.TheVariants as walk
use Rattle.vq_split.specs.Walking.{Told, Walking, walk_of}
use Rattle.vq_split.proofs.Kept.{is_eq}
use Rattle.dev_core.specs.declared.breaking.BreakStage.{BreakStage}
use Rattle.dev_core.specs.declared.returning.ReturnStage.{ReturnStage}
use Rattle.dev_core.specs.Returning.{may_return}
use Rattle.queue_device.specs.declared.lanes.Due.{Due}
use Rattle.queue_device.specs.declared.lanes.Due.TheVariants as due
use Rattle.queue_device.specs.declared.lanes.Lane.{Lane}
use Rattle.queue_device.specs.declared.lanes.Rounds.{Rounds}
use Rattle.queue_device.specs.declared.lanes.Which.{Which}
use Rattle.queue_device.specs.declared.lanes.Which.TheVariants.{First}
use Rattle.queue_device.specs.declared.phase.InHand.{InHand}
use Rattle.queue_device.specs.declared.phase.Phase.{Phase}
use Rattle.queue_device.specs.declared.phase.Phase.TheVariants as phase
use Rattle.queue_device.specs.declared.phase.Work.{Work}
use Rattle.queue_device.specs.declared.phase.Work.TheVariants as work
use Rattle.queue_device.specs.Chains.{Chain, Taken}
use Rattle.queue_device.specs.Confined.{is_chain, is_queue, is_waiting}
use Rattle.queue_device.specs.Kept.{RestsOn, are_kept, is_at_lane, is_fit, is_holding, is_in_hand, is_next, is_of_round, is_over, is_own_lane, is_place, is_state, is_taken_of, is_told, is_walked, is_working, work_of}
use Rattle.queue_device.specs.Lanes.{busy, in_lane, is_up_to, lane_counted, lane_emptied, lane_freed, lane_given, lane_of, lane_waiting, next_rounds, round_over, with_due}
use Rattle.queue_device.specs.Left.{queued}
use Rattle.queue_device.specs.Rounds.{due_behind, due_from}
use Rattle.queue_device.specs.Service.{Service}
use Rattle.queue_device.proofs.Keeping.{lane_is}
use Rattle.queue_device.proofs.KeptRounds.{IsWorked, at_in, behind_worked, from_worked, own_lane, queue_in}
use Rattle.queue_device.proofs.Places.{held_round, of_shown, walking_is}
use Rattle.queue_device.proofs.CodeKept.{between_kept, busy_kept, counted_kept, emptied_kept, freed_kept, given_kept, hand_some, kept_parts, next_kept, or_left, over_kept, pages_in, pages_next, waiting_kept}

module _ {E G : Type 0} (s : Service E) (times : Bool) (is_work : Work → ℕ → G → Bool) where
  -- ---- the round goes on

  -- behind what leaves the rounds in a state, with a queue that they work on
  pub next_state : (o : Option Which) (r : Rounds) (g : G) → are_kept s times r ≡ true → IsWorked r o
      → is_work work.Rest r.pages g ≡ true → is_state s times is_work phase.Between (next_rounds o r) g ≡ true
  next_state o r g kept worked works =
      between_kept s times is_work (next_rounds o r) g (next_kept s times o r kept worked)
      (subst (λ (n : ℕ). is_work work.Rest n g ≡ true) (sym (pages_next o r)) works)

  pub over_state : (r : Rounds) (g : G) → are_kept s times r ≡ true → is_work work.Rest r.pages g ≡ true
      → is_state s times is_work phase.Between (round_over r) g ≡ true
  over_state r g kept works = between_kept s times is_work (round_over r) g (over_kept s times r kept) works

  pub working_kept : (r : Rounds) → is_working s times r ≡ true → are_kept s times r ≡ true
  working_kept r test = (and_parts (are_kept s times r) (is_at_lane r.due) test).0

  pub holding_works : (c : InHand) (r : Rounds) → is_holding s times c r ≡ true → is_working s times r ≡ true
  holding_works c r test = (and_parts (is_working s times r) (is_in_hand times c r) test).0

  pub ended_state : (r : Rounds) (g : G) → is_working s times r ≡ true → is_work work.Rest r.pages g ≡ true
      → is_state s times is_work phase.Between (round_over r) g ≡ true
  ended_state r g test works = over_state r g (working_kept r test) works

  -- the queue of a lane is found empty, or a chain of it was given back
  pub emptied_state : (k : Which) (o : Option Which) (r one : Rounds) (e : E) (g : G) → one ≡ in_lane k lane_emptied r
      → o ≡ due_behind s k (queued one e) → is_working s times r ≡ true
      → is_some (lane_of k r).queue ≡ true → is_work work.Rest r.pages g ≡ true
      → is_state s times is_work phase.Between (next_rounds o one) g ≡ true
  emptied_state k o r one e g is due test some works =
      next_state o one g
      (subst (λ (t : Rounds). are_kept s times t ≡ true) (sym is) (emptied_kept s times k r test some))
      (subst (λ (w : Option Which). IsWorked one w) (sym due) (behind_worked s times k (queued one e)))
      (subst (λ (t : Rounds). is_work work.Rest t.pages g ≡ true) (sym is)
      (subst (λ (n : ℕ). is_work work.Rest n g ≡ true) (sym (pages_in k lane_emptied r)) works))

  pub given_state : (k : Which) (o : Option Which) (r one : Rounds) (e : E) (g : G) → one ≡ busy (in_lane k lane_given r)
      → o ≡ due_from s k (queued one e) → is_working s times r ≡ true
      → is_some (lane_of k r).queue ≡ true → is_work work.Rest r.pages g ≡ true
      → is_state s times is_work phase.Between (next_rounds o one) g ≡ true
  given_state k o r one e g is due test some works =
      next_state o one g
      (subst (λ (t : Rounds). are_kept s times t ≡ true) (sym is)
      (busy_kept s times (in_lane k lane_given r) (given_kept s times k r test some)
      (at_in s times false r.port r.pages k lane_given r (and_parts (are_kept s times r) (is_at_lane r.due) test).1)))
      (subst (λ (w : Option Which). IsWorked one w) (sym due) (from_worked s times k (queued one e)))
      (subst (λ (t : Rounds). is_work work.Rest t.pages g ≡ true) (sym is)
      (subst (λ (n : ℕ). is_work work.Rest n g ≡ true) (sym (pages_in k lane_given r)) works))

  -- the question is answered
  pub answered_state : (o : Option Which) (r one : Rounds) (e : E) (g : G) → are_kept s times one ≡ true
      → one.pages ≡ r.pages → o ≡ due_from s First (queued one e) → is_work work.Rest r.pages g ≡ true
      → is_state s times is_work phase.Between (next_rounds o one) g ≡ true
  answered_state o r one e g kept same due works =
      next_state o one g kept (subst (λ (w : Option Which). IsWorked one w) (sym due) (from_worked s times First (queued one e)))
      (subst (λ (n : ℕ). is_work work.Rest n g ≡ true) (sym same) works)

  -- ---- a chain in hand

  pub held_in : (change : Lane → Lane) (c : InHand) (r : Rounds)
      → (change (lane_of c.which r)).queue ≡ (lane_of c.which r).queue → is_holding s times c r ≡ true
      → are_kept s times (in_lane c.which change r) ≡ true → is_holding s times c (in_lane c.which change r) ≡ true
  held_in change c r same test kept =
      let h = and_parts (is_working s times r) (is_in_hand times c r) test in
      let w = and_parts (are_kept s times r) (is_at_lane r.due) h.0 in
      let p1 = and_parts _ (is_taken_of times (lane_of c.which r).queue c.queue) h.1 in
      let p0 = and_parts (is_sound c.queue) (c.queue.pages == r.pages) p1.0 in
      and_from _ _ (and_from _ _ kept (at_in s times false r.port r.pages c.which change r w.1))
      (and_from _ _
      (and_from _ _ p0.0 (subst (λ (n : ℕ). c.queue.pages == n ≡ true) (sym (pages_in c.which change r)) p0.1))
      (subst (λ (q : Option Queue). is_taken_of times q c.queue ≡ true) (sym (queue_in change r c.which c.which same)) p1.1))

  -- a chain is begun
  pub counted_holds : (c : InHand) (r : Rounds) (g : G) → is_holding s times c r ≡ true
      → is_holding s times c (in_lane c.which lane_counted r) ≡ true
  counted_holds c r g test =
      held_in lane_counted c r refl test
      (counted_kept s times c.which r (holding_works c r test) (hand_some s times is_work r g c test))

  pub counted_in : (k : Which) (q : Queue) (head next : ℕ) (r one : Rounds) (g : G) → one ≡ in_lane k lane_counted r
      → is_holding s times (record { which = k; queue = q; head = head }) r ≡ true
      → is_holding s times (record { which = k; queue = q; head = next }) one ≡ true
  counted_in k q head next r one g is test =
      let c : InHand = record { which = k; queue = q; head = head } in
      subst (λ (t : Rounds). is_holding s times (record { which = k; queue = q; head = next }) t ≡ true) (sym is)
      (counted_holds c r g test)

  pub counted_pages : (k : Which) (r one : Rounds) → one ≡ in_lane k lane_counted r → one.pages ≡ r.pages
  counted_pages k r one is = ap (λ (t : Rounds). t.pages) is ∙ pages_in k lane_counted r

  -- what is kept of it may wait, and may be served
  pub fit_chain : (c : InHand) (r : Rounds) (t : Taken) → is_holding s times c r ≡ true
      → is_fit s r.pages c.which (Some t) ≡ true
      → is_chain s r.pages c.which (record { queue = c.queue; head = c.head; parts = t.parts; got = t.got }) ≡ true
  fit_chain c r t test fit =
      let h = and_parts (is_working s times r) (is_in_hand times c r) test in
      let p1 = and_parts _ (is_taken_of times (lane_of c.which r).queue c.queue) h.1 in
      let p0 = and_parts (is_sound c.queue) (c.queue.pages == r.pages) p1.0 in
      let f1 = and_parts _ (s.is_taken c.which t.parts t.got) fit in
      let f0 = and_parts (are_inside r.pages t.parts) (are_inside r.pages t.got.parts) f1.0 in
      and_from _ _ (and_from _ _ (and_from _ _ (and_from _ _ p0.1 p0.0) f0.0) f0.1) f1.1

  pub waits_state : (c : InHand) (r : Rounds) (g : G) (t : Taken) (chain : Chain)
      → chain ≡ record { queue = c.queue; head = c.head; parts = t.parts; got = t.got } → is_holding s times c r ≡ true
      → is_fit s r.pages c.which (Some t) ≡ true → times ≡ true → is_work work.Rest r.pages g ≡ true
      → is_state s times is_work phase.Between
      (with_due (due.Lane c.which) (in_lane c.which (lane_waiting chain) r)) g ≡ true
  waits_state c r g t chain is test fit may works =
      between_kept s times is_work (with_due (due.Lane c.which) (in_lane c.which (lane_waiting chain) r)) g
      (waiting_kept s times c.which chain r (holding_works c r test) (hand_some s times is_work r g c test) may
      (subst (λ (x : Chain). is_chain s r.pages c.which x ≡ true) (sym is) (fit_chain c r t test fit)))
      (subst (λ (n : ℕ). is_work work.Rest n g ≡ true) (sym (pages_in c.which (lane_waiting chain) r)) works)

  -- a chain that waited is in hand
  waited_by : (has : Bool) (l : Lane) (c : Chain) → is_own_lane times has l ≡ true → l.waiting ≡ Some c → times ≡ true
  waited_by true l c own is =
      or_left times (subst (λ (o : Option Chain). times || not (is_some o) ≡ true) is own)
  waited_by false l c own is =
      let p3 = and_parts _ (not l.is_kicked) own in
      let p2 = and_parts _ (l.used == 0) p3.0 in
      let p1 = and_parts _ (l.next == 0) p2.0 in
      let p0 = and_parts (not (is_some l.queue)) (not (is_some l.waiting)) p1.0 in
      let wrong : not (is_some (Some c)) ≡ true = subst (λ (o : Option Chain). not (is_some o) ≡ true) is p0.1 in
      absurd (cc)

  pub freed_chain : (k : Which) (c : Chain) (r : Rounds) → are_kept s times r ≡ true → (lane_of k r).waiting ≡ Some c
      → is_chain s (in_lane k lane_freed r).pages k c ≡ true
  freed_chain k c r kept waits =
      let v = kept_parts s times r kept in
      let lane = lane_is s r.port r.pages k r v.are in
      let held = (and_parts (is_queue s r.pages (lane_of k r).queue) _ lane).1 in
      subst (λ (n : ℕ). is_chain s n k c ≡ true) (sym (pages_in k lane_freed r))
      (subst (λ (o : Option Chain). is_waiting s r.pages k o ≡ true) waits held)

  pub freed_holds : (k : Which) (c : Chain) (r : Rounds) → are_kept s times r ≡ true → is_at_lane r.due ≡ true
      → is_some (lane_of k r).queue ≡ true → (lane_of k r).waiting ≡ Some c
      → is_holding s times (record { which = k; queue = c.queue; head = c.head }) (in_lane k lane_freed r) ≡ true
  freed_holds k c r kept at some waits =
      let v = kept_parts s times r kept in
      let may = waited_by (is_up_to s.last k) (lane_of k r) c (own_lane s times k r v.own) waits in
      let chain = freed_chain k c r kept waits in
      let h4 = and_parts _ (s.is_taken k c.parts c.got) chain in
      let h3 = and_parts _ (are_inside (in_lane k lane_freed r).pages c.got.parts) h4.0 in
      let h2 = and_parts _ (are_inside (in_lane k lane_freed r).pages c.parts) h3.0 in
      let h1 = and_parts (c.queue.pages == (in_lane k lane_freed r).pages) (is_sound c.queue) h2.0 in
      and_from _ _
      (and_from _ _ (freed_kept s times k r (and_from _ _ kept at) some) (at_in s times false r.port r.pages k lane_freed r at))
      (and_from _ _ (and_from _ _ h1.1 h1.0)
      (subst (λ (b : Bool). is_taken_of b (lane_of k (in_lane k lane_freed r)).queue c.queue ≡ true) (sym may)
      (subst (λ (q : Option Queue). is_some q ≡ true) (sym (queue_in lane_freed r k k refl)) some)))

  pub freed_hand : (k : Which) (c : Chain) (r one : Rounds) → one ≡ in_lane k lane_freed r → are_kept s times r ≡ true
      → is_at_lane r.due ≡ true → is_some (lane_of k r).queue ≡ true → (lane_of k r).waiting ≡ Some c
      → (is_holding s times (record { which = k; queue = c.queue; head = c.head }) one ≡ true)
      × (is_chain s one.pages k c ≡ true)
  freed_hand k c r one is kept at some waits = (
    subst (λ (t : Rounds). is_holding s times (record { which = k; queue = c.queue; head = c.head }) t ≡ true) (sym is)
        (freed_holds k c r kept at some waits),
    subst (λ (t : Rounds). is_chain s t.pages k c ≡ true) (sym is) (freed_chain k c r kept waits),
  )

  pub freed_works : (k : Which) (r one : Rounds) (w : Work) (g : G) → one ≡ in_lane k lane_freed r
      → is_work w r.pages g ≡ true → is_work w one.pages g ≡ true
  freed_works k r one w g is works =
      subst (λ (n : ℕ). is_work w n g ≡ true) (sym (ap (λ (t : Rounds). t.pages) is ∙ pages_in k lane_freed r)) works

  pub freed_state : (k : Which) (r one : Rounds) (g : G) → one ≡ in_lane k lane_freed r → are_kept s times r ≡ true
      → is_at_lane r.due ≡ true → is_some (lane_of k r).queue ≡ true → is_work work.Rest r.pages g ≡ true
      → is_state s times is_work phase.Between one g ≡ true
  freed_state k r one g is kept at some works =
      between_kept s times is_work one g
      (subst (λ (t : Rounds). are_kept s times t ≡ true) (sym is) (freed_kept s times k r (and_from _ _ kept at) some))
      (freed_works k r one work.Rest g is works)

  -- the round goes on behind a queue
  pub behind_state : (k : Which) (o : Option Which) (r : Rounds) (e : E) (g : G) → o ≡ due_behind s k (queued r e)
      → are_kept s times r ≡ true → is_work work.Rest r.pages g ≡ true
      → is_state s times is_work phase.Between (next_rounds o r) g ≡ true
  behind_state k o r e g due kept works =
      next_state o r g kept (subst (λ (w : Option Which). IsWorked r w) (sym due) (behind_worked s times k (queued r e))) works

  -- between two rounds
  pub looks_kept : (r : Rounds) → are_kept s times r ≡ true → are_kept s times (with_due due.Look (round_over r)) ≡ true
  looks_kept r test =
      let p1 = and_parts _ (is_next s.may_ask (round_over r).due (round_over r)) (over_kept s times r test) in
      and_from _ _ p1.0 refl

  pub over_looks : (r one : Rounds) (g : G) → one ≡ round_over r → are_kept s times r ≡ true
      → is_work work.Rest r.pages g ≡ true → is_state s times is_work phase.Between (with_due due.Look one) g ≡ true
  over_looks r one g is kept works =
      subst (λ (t : Rounds). is_state s times is_work phase.Between (with_due due.Look t) g ≡ true) (sym is)
      (between_kept s times is_work (with_due due.Look (round_over r)) g (looks_kept r kept) works)

  pub over_looked : (r one two : Rounds) (g h : G) → one ≡ round_over r
      → (are_kept s times one ≡ true → are_kept s times two ≡ true) → two.pages ≡ one.pages → RestsOn is_work g h
      → are_kept s times r ≡ true → is_work work.Rest r.pages g ≡ true → is_state s times is_work phase.Between two h ≡ true
  over_looked r one two g h is looked same rests kept works =
      between_kept s times is_work two h
      (looked (subst (λ (t : Rounds). are_kept s times t ≡ true) (sym is) (over_kept s times r kept)))
      (subst (λ (n : ℕ). is_work work.Rest n h ≡ true) (sym (same ∙ ap (λ (t : Rounds). t.pages) is)) (rests r.pages works))

  waited_by_due : (o : Due) (r : Rounds) → o ≡ due.Wait → is_next s.may_ask o r ≡ true → is_over r ≡ true
  waited_by_due due.Look r same is = is
  waited_by_due due.Question r same is = absurd (cc)
  waited_by_due due.Wait r same is = is
  waited_by_due (due.Lane k) r same is = absurd (cc)

  pub waited_kept : (r : Rounds) → r.due ≡ due.Wait → are_kept s times r ≡ true → are_kept s times (with_due due.Look r) ≡ true
  waited_kept r same test =
      let p1 = and_parts _ (is_next s.may_ask r.due r) test in
      and_from _ _ p1.0 (waited_by_due r.due r same p1.1)

  -- ---- what the test of a state tells

  pub state_parts : (p : Phase) (r : Rounds) (g : G) → is_state s times is_work p r g ≡ true
      → (are_kept s times r ≡ true) × (is_place times p r ≡ true) × (is_work (work_of p) r.pages g ≡ true)
  state_parts p r g test =
      let p1 = and_parts _ (is_work (work_of p) r.pages g) test in
      let p0 = and_parts (are_kept s times r) (is_place times p r) p1.0 in
      (p0.0, p0.1, p1.1)

  pub walk_parts : (k : Which) (v : Walking) (r : Rounds) (g : G) → is_state s times is_work (phase.Walk k v) r g ≡ true
      → (is_working s times r ≡ true) × (is_walked (lane_of k r) v ≡ true) × (is_work work.Rest r.pages g ≡ true)
  walk_parts k v r g test =
      let p = state_parts (phase.Walk k v) r g test in
      let at = and_parts (is_at_lane r.due) (is_walked (lane_of k r) v) p.1 in
      (and_from _ _ p.0 at.0, at.1, p.2)

  pub take_parts : (c : InHand) (r : Rounds) (g : G) → is_state s times is_work (phase.Take c) r g ≡ true
      → (is_holding s times c r ≡ true) × (is_work (work.Take c.which) r.pages g ≡ true)
  take_parts c r g test =
      let p = state_parts (phase.Take c) r g test in
      let at = and_parts (is_at_lane r.due) (is_in_hand times c r) p.1 in
      (and_from _ _ (and_from _ _ p.0 at.0) at.1, p.2)

  pub serve_parts : (c : InHand) (r : Rounds) (g : G) → is_state s times is_work (phase.Serve c) r g ≡ true
      → (is_holding s times c r ≡ true) × (is_work (work.Serve c.which) r.pages g ≡ true)
  serve_parts c r g test =
      let p = state_parts (phase.Serve c) r g test in
      let at = and_parts (is_at_lane r.due) (is_in_hand times c r) p.1 in
      (and_from _ _ (and_from _ _ p.0 at.0) at.1, p.2)

  pub return_parts : (c : InHand) (len : ℕ) (stage : ReturnStage) (r : Rounds) (g : G)
      → is_state s times is_work (phase.Return c len stage) r g ≡ true
      → (is_holding s times c r ≡ true) × (is_work work.Rest r.pages g ≡ true)
  return_parts c len stage r g test =
      let p = state_parts (phase.Return c len stage) r g test in
      let told = (and_parts _ (may_return stage c.queue) p.1).0 in
      let at = and_parts (is_at_lane r.due) (is_in_hand times c r) (and_parts _ (is_told stage len c.head) told).0 in
      (and_from _ _ (and_from _ _ p.0 at.0) at.1, p.2)

  pub break_parts : (k : Which) (stage : BreakStage) (r : Rounds) (g : G)
      → is_state s times is_work (phase.Break k stage) r g ≡ true
      → (is_working s times r ≡ true) × (is_some (lane_of k r).queue ≡ true) × (is_work work.Rest r.pages g ≡ true)
  break_parts k stage r g test =
      let p = state_parts (phase.Break k stage) r g test in
      let at = and_parts (is_at_lane r.due) (is_some (lane_of k r).queue) p.1 in
      (and_from _ _ p.0 at.0, at.1, p.2)

  -- ---- a walk

  pub new_walked : (l : Lane) (q : Queue) (next : ℕ) (v : Walking) → v ≡ walk_of q next → next ≡ l.next → l.queue ≡ Some q
      → is_walking v ≡ true → is_walked l v ≡ true
  new_walked l q next v is same shown walks =
      and_from _ _
      (and_from _ _ walks
      (subst (λ (w : Walking). is_of_round l.queue w.queue ≡ true) (sym is) (of_shown l.queue q shown)))
      (is_eq v.next l.next (ap (λ (w : Walking). w.next) is ∙ same))

  pub told_gives : (t left : Doing Walk) (came : Walk) → Told t came left → (came ≡ walk.More → ⊥) → t ≡ Gives came
  told_gives t left walk.More told not = absurd (not refl)
  told_gives t left (walk.Chain head parts) told not = told
  told_gives t left walk.Empty told not = told
  told_gives t left (walk.Broken why) told not = told

  pub walked_on : (l : Lane) (w v : Walking) → is_walked l w ≡ true → is_walking v ≡ true → v.queue ≡ w.queue
      → v.next ≡ w.next → is_walked l v ≡ true
  walked_on l w v is walks queue number =
      let p1 = and_parts _ (w.next == l.next) is in
      let p0 = and_parts (is_walking w) (is_of_round l.queue w.queue) p1.0 in
      and_from _ _
      (and_from _ _ walks (subst (λ (q : Queue). is_of_round l.queue q ≡ true) (sym queue) p0.1))
      (subst (λ (n : ℕ). n == l.next ≡ true) (sym number) p1.1)

  -- its queue is in hand, of as many pages
  pub walked_holds : (k : Which) (v : Walking) (head : ℕ) (r : Rounds) → r.pages < 2 ^ 32 → is_working s times r ≡ true
      → is_walked (lane_of k r) v ≡ true
      → (is_holding s times (record { which = k; queue = v.queue; head = head }) r ≡ true) × (v.queue.pages ≡ r.pages)
  walked_holds k v head r few test is =
      let p1 = and_parts _ (v.next == (lane_of k r).next) is in
      let p0 = and_parts (is_walking v) (is_of_round (lane_of k r).queue v.queue) p1.0 in
      let w1 = and_parts _ (are_inside v.queue.pages v.parts) p0.0 in
      let w0 = and_parts (is_sound v.queue) (is_stage v.stage v.queue v.parts) w1.0 in
      let kept = kept_parts s times r (working_kept r test) in
      let own = walking_is s times r.port r.pages few k v r kept.are is in (
        and_from _ _ test
            (and_from _ _ (and_from _ _ w0.0 (is_eq v.queue.pages r.pages own.1)) (held_round times (lane_of k r).queue v.queue p0.1)),
        own.1,
      )
