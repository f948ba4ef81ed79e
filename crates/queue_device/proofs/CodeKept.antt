-- What the code keeps of a device passes the test, step by step.
use Rattle.std.proofs.Common.{◌≡◌, ℕ, ◌||◌, not, refl, sym, ap, ◌∙◌, subst, Bool, true, false, Option, Some, None, is_some}
use Rattle.std.proofs.lemmas.Bool.{and_from, and_parts, or_right}
use Rattle.vm_types.specs.declared.port_look.PortLook.{PortLook}
use Rattle.vq_split.specs.declared.queue.Queue.{Queue}
use Rattle.vq_split.specs.Walking.{Walking}
use Rattle.vq_split.proofs.Kept.{is_eq}
use Rattle.dev_core.specs.declared.breaking.BreakStage.{BreakStage}
use Rattle.dev_core.specs.declared.returning.ReturnStage.{ReturnStage}
use Rattle.dev_core.specs.Returning.{may_return}
use Rattle.queue_device.specs.declared.lanes.Due.{Due}
use Rattle.queue_device.specs.declared.lanes.Due.TheVariants as due
use Rattle.queue_device.specs.declared.lanes.Lane.{Lane}
use Rattle.queue_device.specs.declared.lanes.Rounds.{Rounds}
use Rattle.queue_device.specs.declared.lanes.Which.{Which}
use Rattle.queue_device.specs.declared.lanes.Which.TheVariants.{First, Second, Third}
use Rattle.queue_device.specs.declared.phase.InHand.{InHand}
use Rattle.queue_device.specs.declared.phase.Phase.TheVariants as phase
use Rattle.queue_device.specs.declared.phase.Work.{Work}
use Rattle.queue_device.specs.declared.phase.Work.TheVariants as work
use Rattle.queue_device.specs.Chains.{Chain}
use Rattle.queue_device.specs.Confined.{are_lanes, are_rounds, is_chain, is_lane}
use Rattle.queue_device.specs.Kept.{are_kept, are_own_lanes, is_asking, is_at_lane, is_holding, is_in_hand, is_next, is_own_lane, is_state, is_taken_of, is_told, is_walked, is_working}
use Rattle.queue_device.specs.Lanes.{busy, in_lane, lane_counted, lane_emptied, lane_freed, lane_given, lane_of, lane_waiting, next_rounds, round_begun, round_over, with_due}
use Rattle.queue_device.specs.Left.{queued}
use Rattle.queue_device.specs.Rounds.{due_from}
use Rattle.queue_device.specs.Service.{Service}
use Rattle.queue_device.proofs.Keeping.{begun_are, lane_held, lane_in, over_are}
use Rattle.queue_device.proofs.KeptRounds.{IsWorked, from_worked, lane_due, next_in, over_next, own_begun, own_in, own_over, queue_in}
use Rattle.queue_device.proofs.Places.{held_some}

pub pages_in : (k : Which) (change : Lane → Lane) (r : Rounds) → (in_lane k change r).pages ≡ r.pages
pages_in First change r = refl
pages_in Second change r = refl
pages_in Third change r = refl

pub pages_next : (o : Option Which) (r : Rounds) → (next_rounds o r).pages ≡ r.pages
pages_next (Some k) r = refl
pages_next None r = refl

lane_busy : (k : Which) (r : Rounds) → lane_of k (busy r) ≡ lane_of k r
lane_busy First r = refl
lane_busy Second r = refl
lane_busy Third r = refl

pub or_left : (a : Bool) → (a || false) ≡ true → a ≡ true
or_left true is = refl
or_left false is = is

module _ {E : Type 0} (s : Service E) (times : Bool) where
  -- ---- rounds

  pub record KeptParts (r : Rounds) : Type 0 where
    pub are : are_rounds s r.port r.pages r ≡ true
    pub own : are_own_lanes s times r ≡ true
    pub next : is_next s.may_ask r.due r ≡ true

  pub kept_parts : (r : Rounds) → are_kept s times r ≡ true → KeptParts r
  kept_parts r test =
      let p1 = and_parts _ (is_next s.may_ask r.due r) test in
      let p0 = and_parts (are_lanes s r.pages r) (are_own_lanes s times r) p1.0 in
      record {
        are = and_from _ _ (and_from _ _ (is_eq r.port r.port refl) (is_eq r.pages r.pages refl)) p0.0;
        own = p0.1;
        next = p1.1;
      }

  lanes_of : (port pages : ℕ) (r : Rounds) → are_rounds s port pages r ≡ true → are_lanes s pages r ≡ true
  lanes_of port pages r is = (and_parts _ (are_lanes s pages r) is).1

  over_from : (r : Rounds) → are_rounds s r.port r.pages r ≡ true → are_own_lanes s times r ≡ true
      → are_kept s times (round_over r) ≡ true
  over_from r are own =
      and_from _ _
      (and_from _ _ (lanes_of r.port r.pages (round_over r) (over_are s r.port r.pages r are)) (own_over s times r own))
      (over_next s times false r.port r.pages r)

  next_from : (o : Option Which) (r : Rounds) → are_rounds s r.port r.pages r ≡ true → are_own_lanes s times r ≡ true
      → IsWorked r o → are_kept s times (next_rounds o r) ≡ true
  next_from None r are own worked = over_from r are own
  next_from (Some k) r are own worked =
      and_from _ _ (and_from _ _ (lanes_of r.port r.pages r are) own)
      (subst (λ (l : Lane). is_some l.queue ≡ true) (sym (lane_due k (due.Lane k) r)) worked)

  pub over_kept : (r : Rounds) → are_kept s times r ≡ true → are_kept s times (round_over r) ≡ true
  over_kept r test = let v = kept_parts r test in over_from r v.are v.own

  pub next_kept : (o : Option Which) (r : Rounds) → are_kept s times r ≡ true → IsWorked r o
      → are_kept s times (next_rounds o r) ≡ true
  next_kept o r test worked = let v = kept_parts r test in next_from o r v.are v.own worked

  -- a look begins a round, with a question or with a queue that it works on
  pub question_kept : (look : PortLook) (r : Rounds) → are_kept s times r ≡ true → s.may_ask ≡ true
      → are_kept s times (with_due due.Question (round_begun s.last look r)) ≡ true
  question_kept look r test may =
      let v = kept_parts r test in
      and_from _ _
      (and_from _ _
      (lanes_of r.port r.pages (round_begun s.last look r) (begun_are s r.port r.pages s.last look r v.are))
      (own_begun s times look r v.own)) may

  pub looked_kept : (o : Option Which) (look : PortLook) (r : Rounds) → are_kept s times r ≡ true
      → IsWorked (round_begun s.last look r) o → are_kept s times (next_rounds o (round_begun s.last look r)) ≡ true
  looked_kept o look r test worked =
      let v = kept_parts r test in
      next_from o (round_begun s.last look r) (begun_are s r.port r.pages s.last look r v.are) (own_begun s times look r v.own)
      worked

  pub asked_kept : (k : Which) (may : Bool) (look : PortLook) (r one : Rounds) → one ≡ round_begun k look r → k ≡ s.last
      → may ≡ s.may_ask → may ≡ true → are_kept s times r ≡ true → are_kept s times (with_due due.Question one) ≡ true
  asked_kept k may look r one is last asks says test =
      subst (λ (t : Rounds). are_kept s times (with_due due.Question t) ≡ true)
      (sym (is ∙ ap (λ (w : Which). round_begun w look r) last)) (question_kept look r test (sym asks ∙ says))

  pub begun_kept : (k : Which) (o : Option Which) (look : PortLook) (r one : Rounds) (e : E) → one ≡ round_begun k look r
      → k ≡ s.last → o ≡ due_from s First (queued one e) → are_kept s times r ≡ true
      → are_kept s times (next_rounds o one) ≡ true
  begun_kept k o look r one e is last due test =
      let same : one ≡ round_begun s.last look r = is ∙ ap (λ (w : Which). round_begun w look r) last in
      let worked : IsWorked one o = subst (λ (w : Option Which). IsWorked one w) (sym due) (from_worked s times First (queued one e)) in
      subst (λ (t : Rounds). are_kept s times (next_rounds o t) ≡ true) (sym same)
      (looked_kept o look r test (subst (λ (t : Rounds). IsWorked t o) same worked))

  -- a lane that keeps its queue
  pub in_kept : (k : Which) (change : Lane → Lane) (r : Rounds) → is_working s times r ≡ true
      → is_some (lane_of k r).queue ≡ true
      → (is_lane s r.pages k (lane_of k r) ≡ true → is_lane s r.pages k (change (lane_of k r)) ≡ true)
      → (is_own_lane times true (lane_of k r) ≡ true → is_own_lane times true (change (lane_of k r)) ≡ true)
      → (change (lane_of k r)).queue ≡ (lane_of k r).queue → are_kept s times (in_lane k change r) ≡ true
  in_kept k change r test some lanes own same =
      let w = and_parts (are_kept s times r) (is_at_lane r.due) test in
      let v = kept_parts r w.0 in
      let are : are_lanes s r.pages (in_lane k change r) ≡ true =
      lanes_of r.port r.pages (in_lane k change r) (lane_in s r.port r.pages k change r v.are lanes) in
      and_from _ _
      (and_from _ _ (subst (λ (n : ℕ). are_lanes s n (in_lane k change r) ≡ true) (sym (pages_in k change r)) are)
      (own_in s times k change r _ refl v.own some own))
      (next_in s times false r.port r.pages k change r w.1 same v.next)

  -- a chain waits no longer
  pub freed_kept : (k : Which) (r : Rounds) → is_working s times r ≡ true → is_some (lane_of k r).queue ≡ true
      → are_kept s times (in_lane k lane_freed r) ≡ true
  freed_kept k r test some =
      in_kept k lane_freed r test some (λ is. lane_held s r.port r.pages k None (lane_of k r) refl is) (λ is. or_right times true refl) refl

  busy_by : (o : Due) (r : Rounds) → is_at_lane o ≡ true → is_next s.may_ask o r ≡ true → is_next s.may_ask o (busy r) ≡ true
  busy_by due.Look r at is = absurd (cc)
  busy_by due.Question r at is = is
  busy_by due.Wait r at is = absurd (cc)
  busy_by (due.Lane k) r at is = subst (λ (l : Lane). is_some l.queue ≡ true) (sym (lane_busy k r)) is

  asked_by : (o : Due) (r : Rounds) → is_asking o ≡ true → is_next s.may_ask o r ≡ true → is_next s.may_ask o (busy r) ≡ true
  asked_by due.Look r at is = absurd (cc)
  asked_by due.Question r at is = is
  asked_by due.Wait r at is = absurd (cc)
  asked_by (due.Lane k) r at is = absurd (cc)

  -- something was given back or received
  pub busy_kept : (r : Rounds) → are_kept s times r ≡ true → is_at_lane r.due ≡ true → are_kept s times (busy r) ≡ true
  busy_kept r test at =
      let p1 = and_parts _ (is_next s.may_ask r.due r) test in and_from _ _ p1.0 (busy_by r.due r at p1.1)

  pub received_kept : (r : Rounds) → are_kept s times r ≡ true → is_asking r.due ≡ true → are_kept s times (busy r) ≡ true
  received_kept r test at =
      let p1 = and_parts _ (is_next s.may_ask r.due r) test in and_from _ _ p1.0 (asked_by r.due r at p1.1)

  -- one more was begun, none was found, one was given back
  pub counted_kept : (k : Which) (r : Rounds) → is_working s times r ≡ true → is_some (lane_of k r).queue ≡ true
      → are_kept s times (in_lane k lane_counted r) ≡ true
  counted_kept k r test some = in_kept k lane_counted r test some (λ x. x) (λ x. x) refl

  pub emptied_kept : (k : Which) (r : Rounds) → is_working s times r ≡ true → is_some (lane_of k r).queue ≡ true
      → are_kept s times (in_lane k lane_emptied r) ≡ true
  emptied_kept k r test some = in_kept k lane_emptied r test some (λ x. x) (λ x. x) refl

  pub given_kept : (k : Which) (r : Rounds) → is_working s times r ≡ true → is_some (lane_of k r).queue ≡ true
      → are_kept s times (in_lane k lane_given r) ≡ true
  given_kept k r test some = in_kept k lane_given r test some (λ x. x) (λ x. x) refl

  -- a chain waits, and guest time is due
  pub waiting_kept : (k : Which) (c : Chain) (r : Rounds) → is_working s times r ≡ true
      → is_some (lane_of k r).queue ≡ true → times ≡ true → is_chain s r.pages k c ≡ true
      → are_kept s times (with_due (due.Lane k) (in_lane k (lane_waiting c) r)) ≡ true
  waiting_kept k c r test some may chain =
      let now : Rounds = in_lane k (lane_waiting c) r in
      let kept = in_kept k (lane_waiting c) r test some
      (λ is. lane_held s r.port r.pages k (Some c) (lane_of k r) chain is)
      (λ is. subst (λ (b : Bool). b || not (is_some (Some c)) ≡ true) (sym may) refl) refl in
      next_kept (Some k) now kept (subst (λ (q : Option Queue). is_some q ≡ true) (sym (queue_in (lane_waiting c) r k k refl)) some)

module _ {E G : Type 0} (s : Service E) (times : Bool) (is_work : Work → ℕ → G → Bool) (r : Rounds) (g : G) where
  -- ---- what the device is at

  pub between_kept : are_kept s times r ≡ true → is_work work.Rest r.pages g ≡ true
      → is_state s times is_work phase.Between r g ≡ true
  between_kept kept works = and_from _ _ (and_from _ _ kept refl) works

  pub break_kept : (k : Which) (stage : BreakStage) → is_working s times r ≡ true → is_some (lane_of k r).queue ≡ true
      → is_work work.Rest r.pages g ≡ true → is_state s times is_work (phase.Break k stage) r g ≡ true
  break_kept k stage test some works =
      let w = and_parts (are_kept s times r) (is_at_lane r.due) test in
      and_from _ _ (and_from _ _ w.0 (and_from _ _ w.1 some)) works

  pub walk_kept : (k : Which) (v : Walking) → is_working s times r ≡ true → is_walked (lane_of k r) v ≡ true
      → is_work work.Rest r.pages g ≡ true → is_state s times is_work (phase.Walk k v) r g ≡ true
  walk_kept k v test walks works =
      let w = and_parts (are_kept s times r) (is_at_lane r.due) test in
      and_from _ _ (and_from _ _ w.0 (and_from _ _ w.1 walks)) works

  module _ (c : InHand) (test : is_holding s times c r ≡ true) where
    holding : (is_working s times r ≡ true) × (is_in_hand times c r ≡ true)
    holding = and_parts (is_working s times r) (is_in_hand times c r) test

    pub hand_some : is_some (lane_of c.which r).queue ≡ true
    hand_some = held_some times _ c.queue (and_parts _ (is_taken_of times (lane_of c.which r).queue c.queue) holding.1).1

    pub hand_break : (stage : BreakStage) → is_work work.Rest r.pages g ≡ true
        → is_state s times is_work (phase.Break c.which stage) r g ≡ true
    hand_break stage works = break_kept c.which stage holding.0 hand_some works

    pub take_kept : is_work (work.Take c.which) r.pages g ≡ true → is_state s times is_work (phase.Take c) r g ≡ true
    take_kept works =
        let w = and_parts (are_kept s times r) (is_at_lane r.due) holding.0 in
        and_from _ _ (and_from _ _ w.0 (and_from _ _ w.1 holding.1)) works

    pub serve_kept : is_work (work.Serve c.which) r.pages g ≡ true → is_state s times is_work (phase.Serve c) r g ≡ true
    serve_kept works =
        let w = and_parts (are_kept s times r) (is_at_lane r.due) holding.0 in
        and_from _ _ (and_from _ _ w.0 (and_from _ _ w.1 holding.1)) works

    pub return_kept : (len : ℕ) (stage : ReturnStage) → is_told stage len c.head ≡ true → may_return stage c.queue ≡ true
        → is_work work.Rest r.pages g ≡ true → is_state s times is_work (phase.Return c len stage) r g ≡ true
    return_kept len stage told may works =
        let w = and_parts (are_kept s times r) (is_at_lane r.due) holding.0 in
        and_from _ _ (and_from _ _ w.0 (and_from _ _ (and_from _ _ (and_from _ _ w.1 holding.1) told) may)) works
