-- What the test of a state tells of the queue in hand.
use Rattle.std.proofs.Common.{◌≡◌, ℕ, ◌^◌, ◌<◌, ◌==◌, sym, subst, ◌∙◌, Bool, true, false, refl, Option, Some, None, is_some}
use Rattle.std.proofs.lemmas.Bool.{and_from, and_parts, eqb-true}
use Rattle.vq_split.specs.declared.queue.Queue.{Queue}
use Rattle.vq_split.specs.Kept.{IsWalking, is_sound, is_walking}
use Rattle.vq_split.specs.Walking.{IsSound, Walking}
use Rattle.vq_split.proofs.Kept.{is_eq, sound_of_test, walking_of}
use Rattle.queue_device.specs.declared.lanes.Rounds.{Rounds}
use Rattle.queue_device.specs.declared.lanes.Which.{Which}
use Rattle.queue_device.specs.declared.phase.InHand.{InHand}
use Rattle.queue_device.specs.Confined.{are_rounds, is_queue, is_waiting}
use Rattle.queue_device.specs.Kept.{is_in_hand, is_of_round, is_same_bool, is_same_queue, is_taken_of, is_walked}
use Rattle.queue_device.specs.Lanes.{lane_of}
use Rattle.queue_device.specs.Service.{Service}
use Rattle.queue_device.proofs.Keeping.{lane_is, rounds_of}

same_bool : (b : Bool) → is_same_bool b b ≡ true
same_bool true = refl
same_bool false = refl

pub same_queue : (q : Queue) → is_same_queue q q ≡ true
same_queue q =
    and_from _ _
    (and_from _ _
    (and_from _ _
    (and_from _ _
    (and_from _ _ (and_from _ _ (is_eq q.descriptors q.descriptors refl) (is_eq q.available q.available refl))
    (is_eq q.used q.used refl)) (is_eq q.size q.size refl))
    (is_eq q.pages q.pages refl)) (same_bool q.accepted.indirect)) (same_bool q.accepted.event_index)

pub of_shown : (shown : Option Queue) (q : Queue) → shown ≡ Some q → is_of_round shown q ≡ true
of_shown shown q is = subst (λ (o : Option Queue). is_of_round o q ≡ true) (sym is) (same_queue q)

pub round_some : (shown : Option Queue) (q : Queue) → is_of_round shown q ≡ true → is_some shown ≡ true
round_some None q is = cc
round_some (Some own) q is = refl

pub held_some : (times : Bool) (shown : Option Queue) (q : Queue) → is_taken_of times shown q ≡ true
    → is_some shown ≡ true
held_some true shown q is = is
held_some false shown q is = round_some shown q is

pub held_round : (times : Bool) (shown : Option Queue) (q : Queue) → is_of_round shown q ≡ true
    → is_taken_of times shown q ≡ true
held_round true shown q is = round_some shown q is
held_round false shown q is = is

module _ {E : Type 0} (s : Service E) (times : Bool) (port pages : ℕ) (few : pages < 2 ^ 32) where
  -- a chain of this queue may be in hand
  abbrev pub Held : Which → Queue → Rounds → Type 0
  Held k q r = IsSound q × (q.pages ≡ pages) × (is_taken_of times (lane_of k r).queue q ≡ true)

  queue_pages : (shown : Option Queue) (q : Queue) → is_of_round shown q ≡ true → is_queue s pages shown ≡ true
      → q.pages ≡ pages
  queue_pages None q is own = cc
  queue_pages (Some shown) q is own =
      let p1 = and_parts _ (is_same_bool shown.accepted.event_index q.accepted.event_index) is in
      let p0 = and_parts _ (is_same_bool shown.accepted.indirect q.accepted.indirect) p1.0 in
      sym (eqb-true shown.pages q.pages (and_parts _ (shown.pages == q.pages) p0.0).1) ∙ eqb-true shown.pages pages own

  pub lane_queue : (k : Which) (r : Rounds) → are_rounds s port pages r ≡ true
      → is_queue s pages (lane_of k r).queue ≡ true
  lane_queue k r are = (and_parts _ (is_waiting s pages k (lane_of k r).waiting) (lane_is s port pages k r are)).0

  pub held_of : (c : InHand) (r : Rounds) → are_rounds s port pages r ≡ true → is_in_hand times c r ≡ true
      → Held c.which c.queue r
  held_of c r are is =
      let p1 = and_parts _ (is_taken_of times (lane_of c.which r).queue c.queue) is in
      let p0 = and_parts (is_sound c.queue) (c.queue.pages == r.pages) p1.0 in
      let same = eqb-true c.queue.pages r.pages p0.1 ∙ (rounds_of s port pages r are).pages_are in
      (sound_of_test c.queue (subst (λ (n : ℕ). n < 2 ^ 32) (sym same) few) p0.0, same, p1.1)

  pub walking_is : (k : Which) (v : Walking) (r : Rounds) → are_rounds s port pages r ≡ true
      → is_walked (lane_of k r) v ≡ true → IsWalking v × (v.queue.pages ≡ pages)
  walking_is k v r are is =
      let p1 = and_parts _ (v.next == (lane_of k r).next) is in
      let p0 = and_parts (is_walking v) (is_of_round (lane_of k r).queue v.queue) p1.0 in
      let same = queue_pages (lane_of k r).queue v.queue p0.1 (lane_queue k r are) in
      (walking_of v (subst (λ (n : ℕ). n < 2 ^ 32) (sym same) few) p0.0, same)
