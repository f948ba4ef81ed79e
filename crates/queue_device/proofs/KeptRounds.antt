-- Rounds that may be kept: what a look, a chain and a round's end leave of them.
use Rattle.std.proofs.Common.{◌≡◌, ℕ, ◌==◌, refl, sym, subst, ◌∙◌, Bool, true, false, not, if◌then◌else◌, Option, Some, None, is_some, arith}
use Rattle.std.specs.Prelude.{IfSome}
use Rattle.std.proofs.lemmas.Bool.{and_from, and_parts, or_right}
use Rattle.vm_types.specs.declared.port_look.Accepted.{Accepted}
use Rattle.vm_types.specs.declared.port_look.PortLook.{PortLook}
use Rattle.vm_types.specs.declared.port_look.QueueShown.{QueueShown}
use Rattle.vm_types.specs.declared.reply.Reply.{Reply}
use Rattle.vq_split.specs.declared.queue.Queue.{Queue}
use Rattle.dev_core.specs.Looks.{is_workable, queue_shown}
use Rattle.queue_device.specs.declared.lanes.Due.{Due}
use Rattle.queue_device.specs.declared.lanes.Due.TheVariants as due
use Rattle.queue_device.specs.declared.lanes.Lane.{Lane}
use Rattle.queue_device.specs.declared.lanes.Rounds.{Rounds}
use Rattle.queue_device.specs.declared.lanes.Which.{Which}
use Rattle.queue_device.specs.declared.lanes.Which.TheVariants.{First, Second, Third}
use Rattle.queue_device.specs.Confined.{are_lanes, are_rounds, is_lane}
use Rattle.queue_device.specs.Kept.{are_kept, are_own_lanes, is_at_lane, is_next, is_own_lane}
use Rattle.queue_device.specs.Lanes.{after_round, in_lane, is_up_to, lane_closed, lane_looked, lane_of, lane_reset, lane_seen}
use Rattle.queue_device.specs.Lanes.{new_lane, new_rounds, next_rounds, round_begun, round_over, with_due, with_lane}
use Rattle.queue_device.specs.Resuming.{AreShort, IsShortLane}
use Rattle.queue_device.specs.Rounds.{due_behind, due_from, is_due, second_due, third_due}
use Rattle.queue_device.specs.Service.{Queued, Service}
use Rattle.queue_device.specs.Sizes.{IsNarrowQueue, IsSmallReply, IsSmallShown}
use Rattle.queue_device.proofs.Keeping.{begun_are, lane_in, over_are, rounds_of, test_of}

-- ---- lanes

own_closed : (times has : Bool) (l : Lane) → is_own_lane times has l ≡ true → is_own_lane times has (lane_closed l) ≡ true
own_closed times true l is = is
own_closed times false l is =
    let p3 = and_parts _ (not l.is_kicked) is in
    let p2 = and_parts _ (l.used == 0) p3.0 in
    let p1 = and_parts _ (l.next == 0) p2.0 in
    let p0 = and_parts (not (is_some l.queue)) (not (is_some l.waiting)) p1.0 in
    and_from _ _ (and_from _ _ (and_from _ _ p0.1 p1.1) p2.1) p3.1

own_reset : (times was_reset : Bool) (l : Lane) → is_own_lane times true l ≡ true
    → is_own_lane times true (lane_reset was_reset l) ≡ true
own_reset times true l is = or_right times true refl
own_reset times false l is = is

own_seen : (times has : Bool) (pages : ℕ) (look : PortLook) (shown : QueueShown) (l : Lane)
    → is_own_lane times has l ≡ true → is_own_lane times has (lane_seen has pages look shown l) ≡ true
own_seen times true pages look shown l is = own_reset times look.was_reset l is
own_seen times false pages look shown l is = is

-- ---- lanes that are short

module _ (sized : Bool) where
  pub short_new : IsShortLane sized new_lane
  short_new = (tt, λ is. record { queue = tt; next = omega arith; used = omega arith })

  short_closed : (l : Lane) → IsShortLane sized l → IsShortLane sized (lane_closed l)
  short_closed l short = (short.0, λ is. let n = short.1 is in record { queue = tt; next = n.next; used = n.used })

  short_reset : (was_reset : Bool) (l : Lane) → IsShortLane sized l → IsShortLane sized (lane_reset was_reset l)
  short_reset true l short = short_new
  short_reset false l short = short

  shown_narrow : (test : Bool) (pages : ℕ) (accepted : Accepted) (shown : QueueShown) → IsSmallShown shown
      → IfSome (if test then Some (queue_shown pages accepted shown) else None) IsNarrowQueue
  shown_narrow true pages accepted shown is = record { descriptors = is.descriptors; available = is.available; used = is.used; size = is.size }
  shown_narrow false pages accepted shown is = tt

  short_looked : (pages status : ℕ) (accepted : Accepted) (shown : QueueShown) (l : Lane) → (sized ≡ true → IsSmallShown shown)
      → IsShortLane sized l → IsShortLane sized (lane_looked pages accepted status shown l)
  short_looked pages status accepted shown l small short = (
    short.0,
    λ is.
        let n = short.1 is in
        record { queue = shown_narrow (is_workable status shown) pages accepted shown (small is); next = n.next; used = n.used },
  )

  short_seen : (has : Bool) (pages : ℕ) (look : PortLook) (shown : QueueShown) (l : Lane) → (sized ≡ true → IsSmallShown shown)
      → IsShortLane sized l → IsShortLane sized (lane_seen has pages look shown l)
  short_seen true pages look shown l small short =
      short_looked pages look.status look.accepted shown (lane_reset look.was_reset l) small (short_reset look.was_reset l short)
  short_seen false pages look shown l small short = short

-- a queue that the round works on is one of the device's
has_queue : (times has : Bool) (l : Lane) → is_own_lane times has l ≡ true → is_some l.queue ≡ true → has ≡ true
has_queue times true l is some = refl
has_queue times false l is some =
    let p3 = and_parts _ (not l.is_kicked) is in
    let p2 = and_parts _ (l.used == 0) p3.0 in
    let p1 = and_parts _ (l.next == 0) p2.0 in
    let p0 = and_parts (not (is_some l.queue)) (not (is_some l.waiting)) p1.0 in
    let wrong : not true ≡ true = subst (λ (b : Bool). not b ≡ true) some p0.0 in
    absurd (cc)

-- ---- a lane among the others

pub lane_due : (k : Which) (o : Due) (r : Rounds) → lane_of k (with_due o r) ≡ lane_of k r
lane_due First o r = refl
lane_due Second o r = refl
lane_due Third o r = refl

module _ (change : Lane → Lane) (r : Rounds) where
  -- the queues stay where the change leaves that of its lane
  pub queue_in : (k j : Which) → (change (lane_of k r)).queue ≡ (lane_of k r).queue
      → (lane_of j (in_lane k change r)).queue ≡ (lane_of j r).queue
  queue_in First First same = same
  queue_in First Second same = refl
  queue_in First Third same = refl
  queue_in Second First same = refl
  queue_in Second Second same = same
  queue_in Second Third same = refl
  queue_in Third First same = refl
  queue_in Third Second same = refl
  queue_in Third Third same = same

  short_in : (sized : Bool) (k : Which) → (IsShortLane sized (lane_of k r) → IsShortLane sized (change (lane_of k r)))
      → AreShort sized r → AreShort sized (in_lane k change r)
  short_in sized First on short = (on short.0, short.1, short.2)
  short_in sized Second on short = (short.0, on short.1, short.2)
  short_in sized Third on short = (short.0, short.1, on short.2)

pub short_of : (sized : Bool) (k : Which) (r : Rounds) → AreShort sized r → IsShortLane sized (lane_of k r)
short_of sized First r short = short.0
short_of sized Second r short = short.1
short_of sized Third r short = short.2

-- the round works on the queue that is named
abbrev pub IsWorked : Rounds → Option Which → Type 0
IsWorked r None = Unit {0}
IsWorked r (Some k) = is_some (lane_of k r).queue ≡ true

module _ {E : Type 0} (s : Service E) (times : Bool) where
  pub own_lane : (k : Which) (r : Rounds) → are_own_lanes s times r ≡ true
      → is_own_lane times (is_up_to s.last k) (lane_of k r) ≡ true
  own_lane First r is = (and_parts _ _ (and_parts _ (is_own_lane times (is_up_to s.last Third) r.third) is).0).0
  own_lane Second r is = (and_parts _ _ (and_parts _ (is_own_lane times (is_up_to s.last Third) r.third) is).0).1
  own_lane Third r is = (and_parts _ (is_own_lane times (is_up_to s.last Third) r.third) is).1

  own_of : (r : Rounds) → is_own_lane times (is_up_to s.last First) r.first ≡ true
      → is_own_lane times (is_up_to s.last Second) r.second ≡ true
      → is_own_lane times (is_up_to s.last Third) r.third ≡ true → are_own_lanes s times r ≡ true
  own_of r first second third = and_from _ _ (and_from _ _ first second) third

  own_with : (k : Which) (l : Lane) (r : Rounds) → are_own_lanes s times r ≡ true
      → is_own_lane times (is_up_to s.last k) l ≡ true → are_own_lanes s times (with_lane k l r) ≡ true
  own_with First l r are is = own_of (with_lane First l r) is (own_lane Second r are) (own_lane Third r are)
  own_with Second l r are is = own_of (with_lane Second l r) (own_lane First r are) is (own_lane Third r are)
  own_with Third l r are is = own_of (with_lane Third l r) (own_lane First r are) (own_lane Second r are) is

  pub own_in : (k : Which) (change : Lane → Lane) (r : Rounds) (has : Bool) → is_up_to s.last k ≡ has
      → are_own_lanes s times r ≡ true → is_some (lane_of k r).queue ≡ true
      → (is_own_lane times true (lane_of k r) ≡ true → is_own_lane times true (change (lane_of k r)) ≡ true)
      → are_own_lanes s times (in_lane k change r) ≡ true
  own_in k change r has is are some on =
      let here : is_own_lane times has (lane_of k r) ≡ true =
      subst (λ (b : Bool). is_own_lane times b (lane_of k r) ≡ true) is (own_lane k r are) in
      let yes : has ≡ true = has_queue times has (lane_of k r) here some in
      own_with k (change (lane_of k r)) r are
      (subst (λ (b : Bool). is_own_lane times b (change (lane_of k r)) ≡ true) (sym (is ∙ yes))
      (on (subst (λ (b : Bool). is_own_lane times b (lane_of k r) ≡ true) yes here)))

  pub own_over : (r : Rounds) → are_own_lanes s times r ≡ true → are_own_lanes s times (round_over r) ≡ true
  own_over r are =
      own_of (round_over r) (own_closed times _ r.first (own_lane First r are))
      (own_closed times _ r.second (own_lane Second r are)) (own_closed times _ r.third (own_lane Third r are))

  pub own_begun : (look : PortLook) (r : Rounds) → are_own_lanes s times r ≡ true
      → are_own_lanes s times (round_begun s.last look r) ≡ true
  own_begun look r are =
      own_of (round_begun s.last look r) (own_seen times _ r.pages look look.first r.first (own_lane First r are))
      (own_seen times _ r.pages look look.second r.second (own_lane Second r are))
      (own_seen times _ r.pages look look.third r.third (own_lane Third r are))

  own_new : (has : Bool) → is_own_lane times has new_lane ≡ true
  own_new true = or_right times true refl
  own_new false = refl

  pub new_own : (port pages : ℕ) → are_own_lanes s times (new_rounds port pages) ≡ true
  new_own port pages = own_of (new_rounds port pages) (own_new _) (own_new _) (own_new _)

  -- ---- which queue is next

  third_by : (test : Bool) (d : Queued E) → is_due s Third d ≡ test
      → IsWorked d.rounds (if test then Some Third else None)
  third_by true d is = (and_parts (is_some d.rounds.third.queue) _ is).0
  third_by false d is = tt

  third_worked : (d : Queued E) → IsWorked d.rounds (third_due s d)
  third_worked d = third_by (is_due s Third d) d refl

  second_by : (test : Bool) (d : Queued E) → is_due s Second d ≡ test
      → IsWorked d.rounds (if test then Some Second else third_due s d)
  second_by true d is = (and_parts (is_some d.rounds.second.queue) _ is).0
  second_by false d is = third_worked d

  second_worked : (d : Queued E) → IsWorked d.rounds (second_due s d)
  second_worked d = second_by (is_due s Second d) d refl

  first_by : (test : Bool) (d : Queued E) → is_due s First d ≡ test
      → IsWorked d.rounds (if test then Some First else second_due s d)
  first_by true d is = (and_parts (is_some d.rounds.first.queue) _ is).0
  first_by false d is = second_worked d

  pub from_worked : (k : Which) (d : Queued E) → IsWorked d.rounds (due_from s k d)
  from_worked First d = first_by (is_due s First d) d refl
  from_worked Second d = second_worked d
  from_worked Third d = third_worked d

  pub behind_worked : (k : Which) (d : Queued E) → IsWorked d.rounds (due_behind s k d)
  behind_worked First d = second_worked d
  behind_worked Second d = third_worked d
  behind_worked Third d = tt

  -- ---- rounds of the device at this port, of a guest of so many pages

  module _ (sized : Bool) (port pages : ℕ) where
    abbrev pub IsRound : Rounds → Type 0
    IsRound r = (are_rounds s port pages r ≡ true) × (are_own_lanes s times r ≡ true) × AreShort sized r

    abbrev pub IsNext : Rounds → Type 0
    IsNext r = is_next s.may_ask r.due r ≡ true

    pub round_in : (k : Which) (change : Lane → Lane) (r : Rounds) → IsRound r → is_some (lane_of k r).queue ≡ true
        → (is_lane s pages k (lane_of k r) ≡ true → is_lane s pages k (change (lane_of k r)) ≡ true)
        → (is_own_lane times true (lane_of k r) ≡ true → is_own_lane times true (change (lane_of k r)) ≡ true)
        → (IsShortLane sized (lane_of k r) → IsShortLane sized (change (lane_of k r)))
        → IsRound (in_lane k change r)
    round_in k change r it some lanes own short = (
      lane_in s port pages k change r it.0 lanes,
      own_in k change r (is_up_to s.last k) refl it.1 some own,
      short_in change r sized k short it.2,
    )

    pub round_over_is : (r : Rounds) → IsRound r → IsRound (round_over r)
    round_over_is r it = (
      over_are s port pages r it.0,
      own_over r it.1,
      (short_closed sized r.first it.2.0, short_closed sized r.second it.2.1, short_closed sized r.third it.2.2),
    )

    pub round_begun_is : (look : PortLook) (r : Rounds) → (sized ≡ true → IsSmallReply (Reply.Port look)) → IsRound r
        → IsRound (round_begun s.last look r)
    round_begun_is look r small it = (
      begun_are s port pages s.last look r it.0,
      own_begun look r it.1,
      (
        short_seen sized (is_up_to s.last First) r.pages look look.first r.first (λ is. (small is).0) it.2.0,
        short_seen sized (is_up_to s.last Second) r.pages look look.second r.second (λ is. (small is).1) it.2.1,
        short_seen sized (is_up_to s.last Third) r.pages look look.third r.third (λ is. (small is).2) it.2.2,
      ),
    )

    over_by : (busy : Bool) (r : Rounds) → r.is_busy ≡ busy → is_next s.may_ask (after_round busy) (round_over r) ≡ true
    over_by true r is = refl
    over_by false r is = refl

    -- a round that is over, or goes on with a queue that it works on
    pub over_next : (r : Rounds) → IsNext (round_over r)
    over_next r = over_by r.is_busy r refl

    pub next_is : (o : Option Which) (r : Rounds) → IsRound r → IsWorked r o
        → IsRound (next_rounds o r) × IsNext (next_rounds o r)
    next_is (Some k) r it worked =
        (it, subst (λ (l : Lane). is_some l.queue ≡ true) (sym (lane_due k (due.Lane k) r)) worked)
    next_is None r it worked = (round_over_is r it, over_next r)

    -- inside a group what is due stays, where the change leaves the queue
    next_by : (o : Due) (k : Which) (change : Lane → Lane) (r : Rounds) → is_at_lane o ≡ true
        → (change (lane_of k r)).queue ≡ (lane_of k r).queue → is_next s.may_ask o r ≡ true
        → is_next s.may_ask o (in_lane k change r) ≡ true
    next_by due.Look k change r at same is = cc
    next_by due.Question k change r at same is = cc
    next_by due.Wait k change r at same is = cc
    next_by (due.Lane j) k change r at same is =
        subst (λ (q : Option Queue). is_some q ≡ true) (sym (queue_in change r k j same)) is

    due_in : (k : Which) (change : Lane → Lane) (r : Rounds) → (in_lane k change r).due ≡ r.due
    due_in First change r = refl
    due_in Second change r = refl
    due_in Third change r = refl

    pub next_in : (k : Which) (change : Lane → Lane) (r : Rounds) → is_at_lane r.due ≡ true
        → (change (lane_of k r)).queue ≡ (lane_of k r).queue → IsNext r → IsNext (in_lane k change r)
    next_in k change r at same is =
        subst (λ (o : Due). is_next s.may_ask o (in_lane k change r) ≡ true) (sym (due_in k change r))
        (next_by r.due k change r at same is)

    pub at_in : (k : Which) (change : Lane → Lane) (r : Rounds) → is_at_lane r.due ≡ true
        → is_at_lane (in_lane k change r).due ≡ true
    at_in k change r at = subst (λ (o : Due). is_at_lane o ≡ true) (sym (due_in k change r)) at

    -- ---- by the test

    pub test_of_kept : (r : Rounds) → IsRound r → IsNext r → are_kept s times r ≡ true
    test_of_kept r it next =
        let facts = rounds_of s port pages r it.0 in
        let lanes : are_lanes s pages r ≡ true = and_from _ _ (and_from _ _ facts.first facts.second) facts.third in
        and_from _ _
        (and_from _ _ (subst (λ (n : ℕ). are_lanes s n r ≡ true) (sym facts.pages_are) lanes) it.1) next

  pub round_of : (sized : Bool) (r : Rounds) → are_kept s times r ≡ true → AreShort sized r
      → IsRound sized r.port r.pages r × (is_next s.may_ask r.due r ≡ true)
  round_of sized r test short =
      let p1 = and_parts _ (is_next s.may_ask r.due r) test in
      let p0 = and_parts (are_lanes s r.pages r) (are_own_lanes s times r) p1.0 in
      let l2 = and_parts _ (is_lane s r.pages Third r.third) p0.0 in
      let l1 = and_parts (is_lane s r.pages First r.first) (is_lane s r.pages Second r.second) l2.0 in (
        (
          test_of s r.port r.pages r
              (record { port_is = refl; pages_are = refl; first = l1.0; second = l1.1; third = l2.1 }),
          p0.1,
          short,
        ),
        p1.1,
      )
