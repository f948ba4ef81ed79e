-- What may be kept of a device with queues, as a test: what a state file may have of it.
use Rattle.std.specs.Prelude.{◌≡◌, ℕ, ◌==◌, Bool, true, false, ◌&&◌, ◌||◌, not, Option, Some, None, is_some}
use Rattle.vq_split.specs.declared.queue.Queue.{Queue}
use Rattle.vq_split.specs.Kept.{are_inside, is_sound, is_walking}
use Rattle.vq_split.specs.Walking.{Walking}
use Rattle.dev_core.specs.declared.returning.ReturnStage.{ReturnStage}
use Rattle.dev_core.specs.declared.returning.ReturnStage.TheVariants as returning
use Rattle.dev_core.specs.Returning.{may_return}
use Rattle.queue_device.specs.declared.lanes.Due.{Due}
use Rattle.queue_device.specs.declared.lanes.Due.TheVariants as due
use Rattle.queue_device.specs.declared.lanes.Lane.{Lane}
use Rattle.queue_device.specs.declared.lanes.Rounds.{Rounds}
use Rattle.queue_device.specs.declared.lanes.Which.{Which}
use Rattle.queue_device.specs.declared.lanes.Which.TheVariants.{First, Second, Third}
use Rattle.queue_device.specs.declared.phase.InHand.{InHand}
use Rattle.queue_device.specs.declared.phase.Phase.{Phase}
use Rattle.queue_device.specs.declared.phase.Phase.TheVariants as phase
use Rattle.queue_device.specs.declared.phase.Work.{Work}
use Rattle.queue_device.specs.declared.phase.Work.TheVariants as work
use Rattle.queue_device.specs.Chains.{Taken}
use Rattle.queue_device.specs.Confined.{are_lanes}
use Rattle.queue_device.specs.Lanes.{is_up_to, lane_of}
use Rattle.queue_device.specs.Service.{Service}

-- ---- the rounds

abbrev pub is_new : Lane → Bool
is_new l = not (is_some l.queue) && not (is_some l.waiting) && (l.next == 0) && (l.used == 0) && not l.is_kicked

-- a chain waits only where the kind may ask guest time, and a queue that the device hasn't is as new
abbrev pub is_own_lane : Bool → Bool → Lane → Bool
is_own_lane times true l = times || not (is_some l.waiting)
is_own_lane times false l = is_new l

-- between two rounds the device works on no queue
abbrev pub is_over : Rounds → Bool
is_over r =
    not (is_some r.first.queue) && not (is_some r.second.queue) && not (is_some r.third.queue) && not r.is_busy

-- a look and a wait come between two rounds; the round works on the queue that is due
abbrev pub is_next : Bool → Due → Rounds → Bool
is_next may_ask due.Look r = is_over r
is_next may_ask due.Wait r = is_over r
is_next may_ask due.Question r = may_ask
is_next may_ask (due.Lane k) r = is_some (lane_of k r).queue

-- ---- inside a group

abbrev pub is_asking : Due → Bool
is_asking due.Question = true
is_asking due = false

abbrev pub is_at_lane : Due → Bool
is_at_lane (due.Lane k) = true
is_at_lane due = false

abbrev pub is_same_bool : Bool → Bool → Bool
is_same_bool true b = b
is_same_bool false b = not b

abbrev pub is_same_queue : Queue → Queue → Bool
is_same_queue a b =
    (a.descriptors == b.descriptors) && (a.available == b.available) && (a.used == b.used) && (a.size == b.size)
    && (a.pages == b.pages) && is_same_bool a.accepted.indirect b.accepted.indirect
    && is_same_bool a.accepted.event_index b.accepted.event_index

-- the round works on this queue
abbrev pub is_of_round : Option Queue → Queue → Bool
is_of_round None q = false
is_of_round (Some shown) q = is_same_queue shown q

-- or on one that had these fields when the chain that waited was taken
abbrev pub is_taken_of : Bool → Option Queue → Queue → Bool
is_taken_of true shown q = is_some shown
is_taken_of false shown q = is_of_round shown q

abbrev pub is_in_hand : Bool → InHand → Rounds → Bool
is_in_hand times c r =
    is_sound c.queue && (c.queue.pages == r.pages) && is_taken_of times (lane_of c.which r).queue c.queue

-- what is told already of a chain that is given back isn't kept
abbrev pub is_told : ReturnStage → ℕ → ℕ → Bool
is_told returning.Pair len head = true
is_told returning.Half len head = head == 0
is_told stage len head = (len == 0) && (head == 0)

-- the next chain of its queue is walked
abbrev pub is_walked : Lane → Walking → Bool
is_walked l w = is_walking w && is_of_round l.queue w.queue && (w.next == l.next)

abbrev pub is_place : Bool → Phase → Rounds → Bool
is_place times phase.Between r = true
is_place times phase.Question r = is_asking r.due
is_place times (phase.Walk k w) r = is_at_lane r.due && is_walked (lane_of k r) w
is_place times (phase.Take c) r = is_at_lane r.due && is_in_hand times c r
is_place times (phase.Serve c) r = is_at_lane r.due && is_in_hand times c r
is_place times (phase.Return c len stage) r =
    is_at_lane r.due && is_in_hand times c r && is_told stage len c.head && may_return stage c.queue
is_place times (phase.Break k stage) r = is_at_lane r.due && is_some (lane_of k r).queue

-- what its kind is at
abbrev pub work_of : Phase → Work
work_of phase.Question = work.Answer
work_of (phase.Take c) = work.Take c.which
work_of (phase.Serve c) = work.Serve c.which
work_of phase = work.Rest

-- and where it is once this was told of its work: there still, or at rest
abbrev pub work_after : {A : Type 0} → Option A → Work → Work
work_after None w = w
work_after (Some a) w = work.Rest

-- a kind at rest is at rest still
abbrev pub RestsOn : {G : Type 0} → (Work → ℕ → G → Bool) → G → G → Type 0
RestsOn is_work g h = (pages : ℕ) → is_work work.Rest pages g ≡ true → is_work work.Rest pages h ≡ true

-- ---- the device

module _ {E : Type 0} (s : Service E) where
  -- what is kept of a chain that was taken lies inside RAM, and the chain may be served
  abbrev pub is_fit : ℕ → Which → Option Taken → Bool
  is_fit pages k None = true
  is_fit pages k (Some t) = are_inside pages t.parts && are_inside pages t.got.parts && s.is_taken k t.parts t.got

  abbrev pub is_fit_told : ℕ → Which → Option (Option Taken) → Bool
  is_fit_told pages k None = true
  is_fit_told pages k (Some t) = is_fit pages k t

module _ {E : Type 0} (s : Service E) (times : Bool) where
  abbrev pub are_own_lanes : Rounds → Bool
  are_own_lanes r =
      is_own_lane times (is_up_to s.last First) r.first && is_own_lane times (is_up_to s.last Second) r.second
      && is_own_lane times (is_up_to s.last Third) r.third

  abbrev pub are_kept : Rounds → Bool
  are_kept r = are_lanes s r.pages r && are_own_lanes r && is_next s.may_ask r.due r

  -- a group works on a queue
  abbrev pub is_working : Rounds → Bool
  is_working r = are_kept r && is_at_lane r.due

  -- and has a chain in hand
  abbrev pub is_holding : InHand → Rounds → Bool
  is_holding c r = is_working r && is_in_hand times c r

  -- its rounds, what it is at, and where its kind is
  abbrev pub is_state : {G : Type 0} → (Work → ℕ → G → Bool) → Phase → Rounds → G → Bool
  is_state is_work p r g = are_kept r && is_place times p r && is_work (work_of p) r.pages g
